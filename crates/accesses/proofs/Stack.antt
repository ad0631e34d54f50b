-- What the stack's sizes do. Assumes nothing.
use mathlib.Core.Path.{◌≡◌, refl}
use mathlib.Core.Bool.{Bool, true, false, cond}
use mathlib.Core.List.{List, [], ◌∷◌, ◌++◌}
use Prim.Native.Nat.{ℕ, zero, suc, ◌+◌, ◌%◌, ◌^◌, ◌≤◌, ◌<◌}
use native.Mathlib.Omega.{arith}
use borrow.Author.Tests.{ltb-true}
use lib.Dec.{T, ltb, leb, leb→le}
use lib.IntN.{ℤ, pos, neg_ℤ}
use lib.Signed.{mag}
use Rattle.isa.specs.Immediate.{twos}
use Rattle.isa.specs.Instr.{Instr, R, I, ADD, SUB, ADDI}
use Rattle.isa.proofs.Validity.{Valid}
use Rattle.machine.specs.Word.{w64, upd}
use Rattle.machine.specs.Floats.{Floats}
use Rattle.machine.specs.State.{State, setx}
use Rattle.machine.specs.Effect.{write_x, minus, effect, apply}
use Rattle.machine.proofs.Placed.{Valids}
use Rattle.accesses.specs.Code.{near, li_code, sub_stack_code, add_stack_code, allocate_stack_code}
use Rattle.accesses.specs.Fault.{offset_limit, stack_fault}
use Rattle.accesses.specs.Stands.{Stands, Goes, behind, Leaves, with_size}
use Rattle.accesses.proofs.Then.{silent, leads, valids_join, through, behind_both}
use Rattle.base.proofs.Bools.{passed}
use Rattle.accesses.proofs.Numbers.{mag_neg}
use Rattle.accesses.proofs.LoadImmediate.{li_valid, li_runs}

pub size_fits : (n : ℕ) → stack_fault n ≡ 0 → n ≤ offset_limit
size_fits n e = leb→le n offset_limit (passed (leb n offset_limit) 0 1 e).0

-- -n
sum_minus : (u n : ℕ) → n ≤ offset_limit → w64 (u + twos 64 (neg_ℤ (pos n))) ≡ minus u n
sum_minus u zero h = omega arith
sum_minus u (suc n) h = omega arith

-- the code of a size that i takes directly, else j from t0 that holds z
abbrev pub sized : (n : ℕ) (i : Instr) (z : ℤ) (j : Instr) → List Instr
sized n i z j = cond (ltb n near) (i ∷ []) (li_code 5 z ++ (j ∷ []))

module _ (Q : Floats) (s : State) (n : ℕ) (z : ℤ) (t : mag z < 2 ^ 31) (i j : Instr) (v : ℕ) where
  -- t0 holds z
  abbrev loaded : State
  loaded = behind (li_code 5 z) s (setx s.x 5 (twos 64 z)) s.f s.mem

  -- sp set to v: directly, or from t0
  pub size_runs : T (silent Q (i ∷ []) s) → (n < near → Valid i) → (n < near → effect Q i s ≡ write_x 2 v) → T (silent Q (j ∷ []) loaded) → Valid j → effect Q j loaded ≡ write_x 2 v → Stands (sized n i z j) s → Goes Q (sized n i z j) s (behind (sized n i z j) s (setx (with_size n z s) 2 v) s.f s.mem)
  unfolding apply
  size_runs ki vi hi kj vj hj = by (ltb n near) refl
    where
      by : (b : Bool) → ltb n near ≡ b → Stands (cond b (i ∷ []) (li_code 5 z ++ (j ∷ []))) s → Goes Q (cond b (i ∷ []) (li_code 5 z ++ (j ∷ []))) s (behind (cond b (i ∷ []) (li_code 5 z ++ (j ∷ []))) s (setx (cond b s.x (setx s.x 5 (twos 64 z))) 2 v) s.f s.mem)
      by true e o = let l : n < near = ltb-true n near e in leads Q (i ∷ []) s _ (vi l, tt) ki tt (rw (hi l)) o
      by false e o =
          let x : ℕ → ℕ = setx s.x 5 (twos 64 z) in
          through Q (li_code 5 z) (j ∷ []) s x s.f _
          (li_runs 5 z (omega arith) t Q s)
          (leads Q (j ∷ []) _ _ (vj, tt) kj tt (rw hj (behind_both Q (li_code 5 z) (j ∷ []) s x s.f (setx x 2 v) s.f s.mem)))
          o

-- ---- validity

size_valid : (n : ℕ) (z : ℤ) (i j : Instr) → (n < near → Valid i) → Valid j → Valids (sized n i z j)
size_valid n z i j v w = by (ltb n near) refl
  where
    by : (b : Bool) → ltb n near ≡ b → Valids (cond b (i ∷ []) (li_code 5 z ++ (j ∷ [])))
    by true e = (v (ltb-true n near e), tt)
    by false e = valids_join (li_code 5 z) (j ∷ []) (li_valid 5 z (omega arith)) (w, tt)

less_valid : (n : ℕ) → n < near → Valid (I ADDI 2 2 (neg_ℤ (pos n)))
less_valid n h = omega (arith, mag_neg n near h)

-- whatever the size
pub sub_stack_valid : (n : ℕ) → Valids (sub_stack_code n)
unfolding sub_stack_code
sub_stack_valid n = size_valid n (neg_ℤ (pos n)) (I ADDI 2 2 (neg_ℤ (pos n))) (R ADD 2 2 5) (less_valid n) (omega arith)

pub add_stack_valid : (n : ℕ) → Valids (add_stack_code n)
unfolding add_stack_code
add_stack_valid n = size_valid n (pos n) (I ADDI 2 2 (pos n)) (R ADD 2 2 5) (λ l. omega arith) (omega arith)

pub allocate_stack_valid : (n : ℕ) → Valids (allocate_stack_code n)
unfolding allocate_stack_code
allocate_stack_valid n =
    let is : List Instr = sized n (I ADDI 2 2 (neg_ℤ (pos n))) (pos n) (R SUB 2 2 5) in
    valids_join is (R ADD 21 2 0 ∷ []) (size_valid n (pos n) (I ADDI 2 2 (neg_ℤ (pos n))) (R SUB 2 2 5) (less_valid n) (omega arith)) (omega arith)

-- ---- what they do

module _ (n : ℕ) (h : stack_fault n ≡ 0) where
  -- sp less n
  pub sub_stack_runs : Leaves (sub_stack_code n) (λ s. setx (with_size n (neg_ℤ (pos n)) s) 2 (minus (s.x 2) n)) (λ s. s.f) (λ s. s.mem)
  unfolding sub_stack_code effect setx upd
  sub_stack_runs Q s =
      let l : n ≤ offset_limit = size_fits n h in
      let e : w64 (s.x 2 + twos 64 (neg_ℤ (pos n))) ≡ minus (s.x 2) n = sum_minus (s.x 2) n l in
      size_runs Q s n (neg_ℤ (pos n)) (mag_neg n (2 ^ 31) (omega arith)) (I ADDI 2 2 (neg_ℤ (pos n))) (R ADD 2 2 5) _ tt (less_valid n) (λ k. rw e) tt (omega arith) (rw e)

  -- sp and n
  pub add_stack_runs : Leaves (add_stack_code n) (λ s. setx (with_size n (pos n) s) 2 (w64 (s.x 2 + n))) (λ s. s.f) (λ s. s.mem)
  unfolding add_stack_code effect setx upd
  add_stack_runs Q s =
      let l : n ≤ offset_limit = size_fits n h in
      let e : n % 2 ^ 64 ≡ n = omega arith in
      size_runs Q s n (pos n) (omega arith) (I ADDI 2 2 (pos n)) (R ADD 2 2 5) _ tt (λ k. omega arith) (λ k. rw e) tt (omega arith) (rw e)

  -- sp less n, and s5 the same
  pub allocate_stack_runs : Leaves (allocate_stack_code n) (λ s. setx (setx (with_size n (pos n) s) 2 (minus (s.x 2) n)) 21 (minus (s.x 2) n)) (λ s. s.f) (λ s. s.mem)
  unfolding allocate_stack_code effect apply setx upd
  allocate_stack_runs Q s =
      let l : n ≤ offset_limit = size_fits n h in
      let e : w64 (s.x 2 + twos 64 (neg_ℤ (pos n))) ≡ minus (s.x 2) n = sum_minus (s.x 2) n l in
      let g : n % 2 ^ 64 ≡ n = omega arith in
      let is : List Instr = sized n (I ADDI 2 2 (neg_ℤ (pos n))) (pos n) (R SUB 2 2 5) in
      let x : ℕ → ℕ = setx (with_size n (pos n) s) 2 (minus (s.x 2) n) in
      let k : w64 (minus (s.x 2) n + 0) ≡ minus (s.x 2) n = omega arith in
      through Q is (R ADD 21 2 0 ∷ []) s x s.f _
      (size_runs Q s n (pos n) (omega arith) (I ADDI 2 2 (neg_ℤ (pos n))) (R SUB 2 2 5) _ tt (less_valid n) (λ k. rw e) tt (omega arith) (rw g))
      (leads Q (R ADD 21 2 0 ∷ []) _ _ (omega arith) tt tt
      (rw k (behind_both Q is (R ADD 21 2 0 ∷ []) s x s.f (setx x 21 (minus (s.x 2) n)) s.f s.mem)))
