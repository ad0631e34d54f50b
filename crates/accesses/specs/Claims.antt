-- What accepted accesses do on the machine (document 01, demand 2, "mod.rs, accesses"), and its "Proved table".
use Rattle.std.specs.Prelude.{◌≡◌, cond, List, [], ◌∷◌, ℕ, ◌+◌, ◌^◌, ◌<◌, eqb, ℤ, pos, negsuc, neg_ℤ, length}
use Rattle.std.proofs.Math.IntN.{sub_ℕ}
use Rattle.std.specs.Int.Signed.{mag}
use Rattle.isa.specs.Immediate.{twos}
use Rattle.isa.specs.Register.{sp, s5}
use Rattle.isa.specs.Instr.{Instr}
use Rattle.machine.specs.Word.{w64, upd, load8, store8}
use Rattle.machine.specs.Floats.{Floats}
use Rattle.machine.specs.State.{State, setx}
use Rattle.machine.specs.Effect.{minus}
use Rattle.machine.specs.Step.{words}
use Rattle.refusal.specs.Answer.{Answer, accepted, refused}
use Rattle.assembler.specs.Jump.{jump_instr}
use Rattle.assembler.specs.declared.JumpKind.TheVariants.{Auipc, Jalr}
use Rattle.accesses.specs.Code.{near, near_pair, li_code, load_float_code, save_float_code, load_int_code}
use Rattle.accesses.specs.Code.{load_complex_code, save_complex_code, sub_stack_code, add_stack_code, allocate_stack_code}
use Rattle.accesses.specs.Fault.{li_fault, one_fault, pair_fault, stack_fault}
use Rattle.accesses.specs.Stands.{Stands, Goes, behind, Leaves, cell_at, one_cell, two_cells, Accessible, AccessLeaves, Misses, with_t0, with_size}

-- From every state at its words, with its cells accessible, an accepted access leaves these registers, float registers and memory.
pub record Claim : Type 0 where
  -- the register holds z, any number of 32 bits with a sign, sign-extended to 64 bits
  pub li : (d : ℕ) (z : ℤ) → mag z < 2 ^ 31 → li_fault d ≡ 0
      → Leaves (li_code d z) (λ s. setx s.x d (twos 64 z)) (λ s. s.f) (λ s. s.mem)
  -- the register holds the cell at base + n
  pub load_float : (d base n : ℕ) → one_fault d base n ≡ 0
      → AccessLeaves (one_cell base n) (load_float_code d base n) (with_t0 near base n)
      (λ s. upd s.f d (load8 s.mem (cell_at s base n)))
      (λ s. s.mem)
  pub load_int : (d base n : ℕ) → one_fault d base n ≡ 0
      → AccessLeaves (one_cell base n) (load_int_code d base n)
      (λ s. setx (with_t0 near base n s) d (load8 s.mem (cell_at s base n)))
      (λ s. s.f)
      (λ s. s.mem)
  -- the cell holds the register
  pub save_float : (r base n : ℕ) → one_fault r base n ≡ 0
      → AccessLeaves (one_cell base n) (save_float_code r base n) (with_t0 near base n) (λ s. s.f)
      (λ s. store8 s.mem (cell_at s base n) (s.f r))
  -- two registers, with the cells at base + n and base + n + 8
  pub load_complex : (d base n : ℕ) → pair_fault d base n ≡ 0
      → AccessLeaves (two_cells base n) (load_complex_code d base n) (with_t0 near_pair base n)
      (λ s. upd (upd s.f d (load8 s.mem (cell_at s base n))) (d + 1) (load8 s.mem (cell_at s base (n + 8))))
      (λ s. s.mem)
  -- where the first cell is not among the words
  pub save_complex : (r base n : ℕ) → pair_fault r base n ≡ 0 → (Q : Floats) (s : State)
      → Accessible (two_cells base n s)
      → Misses (cell_at s base n) (save_complex_code r base n) s
      → Stands (save_complex_code r base n) s
      → Goes Q (save_complex_code r base n) s
      (behind (save_complex_code r base n) s (with_t0 near_pair base n s) s.f
      (store8 (store8 s.mem (cell_at s base n) (s.f r)) (cell_at s base (n + 8)) (s.f (r + 1))))
  -- sp is less or more by the size
  pub sub_stack : (n : ℕ) → stack_fault n ≡ 0
      → Leaves (sub_stack_code n) (λ s. setx (with_size n (neg_ℤ (pos n)) s) sp (minus (s.x sp) n)) (λ s. s.f) (λ s. s.mem)
  pub add_stack : (n : ℕ) → stack_fault n ≡ 0
      → Leaves (add_stack_code n) (λ s. setx (with_size n (pos n) s) sp (w64 (s.x sp + n))) (λ s. s.f) (λ s. s.mem)
  -- and s5 is then sp
  pub allocate_stack : (n : ℕ) → stack_fault n ≡ 0
      → Leaves (allocate_stack_code n)
      (λ s. setx (setx (with_size n (pos n) s) sp (minus (s.x sp) n)) s5 (minus (s.x sp) n))
      (λ s. s.f)
      (λ s. s.mem)

-- ---- document 01's "Proved table", entries a to j; e as document 02, point 6, has it

-- the words, or the number
abbrev pub answer : (fault : ℕ) → List Instr → Answer (List ℕ)
answer k is = cond (eqb k 0) (accepted (words is)) (refused k 0)

-- how many words, or the number
abbrev pub counted : Answer (List ℕ) → Answer ℕ
counted (accepted ws) = accepted (length ws)
counted (refused k place) = refused k place

-- a0 and fa0 are 10, s1 is 9; entry h both ways, loaded and stored
pub record TableClaim : Type 0 where
  pub a : answer (li_fault 10) (li_code 10 (pos 2047)) ≡ accepted (0x7ff00513 ∷ [])
  pub b : answer (li_fault 10) (li_code 10 (negsuc 2047)) ≡ accepted (0x80000513 ∷ [])
  pub c : answer (li_fault 10) (li_code 10 (pos 2048)) ≡ accepted (0x00001537 ∷ 0x80050513 ∷ [])
  pub d : answer (li_fault 10) (li_code 10 (pos 0x7FFFF7FF)) ≡ accepted (0x7ffff537 ∷ 0x7ff50513 ∷ [])
  pub e : answer (li_fault 10) (li_code 10 (pos 0x7FFFF800)) ≡ accepted (0x80000537 ∷ 0x8005051b ∷ [])
  pub f : answer (one_fault 10 9 2040) (load_float_code 10 9 2040) ≡ accepted (0x7f84b507 ∷ [])
  pub g : answer (one_fault 10 9 2048) (load_float_code 10 9 2048)
      ≡ accepted (0x000012b7 ∷ 0x80028293 ∷ 0x009282b3 ∷ 0x0002b507 ∷ [])
  pub h : counted (answer (pair_fault 10 9 2032) (load_complex_code 10 9 2032)) ≡ accepted 2
  pub h_far : counted (answer (pair_fault 10 9 2040) (load_complex_code 10 9 2040)) ≡ accepted 4
  pub h_stored : counted (answer (pair_fault 10 9 2032) (save_complex_code 10 9 2032)) ≡ accepted 2
  pub h_stored_far : counted (answer (pair_fault 10 9 2040) (save_complex_code 10 9 2040)) ≡ accepted 4
  pub i : answer (stack_fault 2048) (sub_stack_code 2048) ≡ accepted (0x80000293 ∷ 0x00510133 ∷ [])
  pub j : words (jump_instr Auipc 0 (sub_ℕ 2048 0) ∷ jump_instr Jalr 0 (sub_ℕ 2048 4) ∷ []) ≡ 0x00001297 ∷ 0x80028067 ∷ []
