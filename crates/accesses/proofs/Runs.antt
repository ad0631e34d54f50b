-- Accepted loads and stores: their instructions are valid, and what they do, for any base, register and offset. Assumes nothing.
use mathlib.Core.Path.{◌≡◌, refl}
use mathlib.Core.Bool.{Bool, true, false, ◌&&◌, cond}
use mathlib.Core.List.{List, [], ◌∷◌, ◌++◌}
use Prim.Native.Nat.{ℕ, ◌+◌, ◌*◌, ◌%◌, ◌^◌, ◌≤◌, ◌<◌}
use native.Mathlib.Omega.{arith}
use borrow.Author.Tests.{ltb-true, lt-ltb, le-ltb}
use lib.Dec.{T, ltb, leb, ltb→lt, leb→le}
use lib.IntN.{pos}
use lib.ListN.{length, length-append}
use Rattle.isa.specs.Immediate.{hi, lo}
use Rattle.isa.specs.Instr.{Instr, R, I, U, ADD, ADDI, LUI}
use Rattle.machine.specs.Word.{w64, upd, load8, store8}
use Rattle.machine.specs.Floats.{Floats}
use Rattle.machine.specs.State.{State, getx, setx, next}
use Rattle.base.proofs.Bools.{and_l, and_r}
use Rattle.machine.proofs.Memory.{Apart, dist_ahead}
use Rattle.machine.proofs.Placed.{Valids}
use Rattle.accesses.specs.Code.{near, li_code, low_op, point_code, access_code, near_pair, load_float_code, save_float_code, load_int_code, load_complex_code, save_complex_code}
use Rattle.accesses.specs.Fault.{offset_limit, one_fault, last_pair, pair_fault}
use Rattle.accesses.specs.Inner.Plans.{one_code, pair_code}
use Rattle.accesses.specs.declared.Cell.{Cell}
use Rattle.accesses.specs.declared.Cell.TheVariants.{LoadFloat, SaveFloat, LoadInt}
use Rattle.accesses.specs.Stands.{Stands, Goes, behind, cell_at, one_cell, two_cells, Accessible, AccessLeaves, Misses, with_t0}
use Rattle.accesses.proofs.Then.{valids_join}
use Rattle.accesses.proofs.LoadImmediate.{li_valid}
use Rattle.accesses.proofs.Direct.{Accepted, accepted, access_runs, load_float_direct, load_int_direct, save_float_direct, load_pair_direct, save_pair_direct}

-- ---- validity

access_valid : (limit : ℕ) (is : ℕ → ℕ → List Instr) (b n : ℕ) → b < 32 → (n < limit → Valids (is b n)) → Valids (is 5 0) → Valids (access_code limit is b n)
unfolding access_code point_code
access_valid limit is b n hb v w = by (ltb n limit) refl
  where
    by : (t : Bool) → ltb n limit ≡ t → Valids (cond t (is b n) (point_code b n ++ is 5 0))
    by true e = v (ltb-true n limit e)
    by false e =
        valids_join (point_code b n) (is 5 0) (valids_join (li_code 5 (pos n)) (R ADD 5 5 b ∷ []) (li_valid 5 (pos n) (omega arith)) (omega arith)) w

-- ---- how many words

point_length : (b n : ℕ) → length (point_code b n) ≤ 3
unfolding point_code li_code
point_length b n = by (ltb n near)
  where
    by : (t : Bool) → length (cond t (I ADDI 5 0 (pos n) ∷ []) (U LUI 5 (pos (hi (n % 2 ^ 32))) ∷ I (low_op (pos n)) 5 5 (lo (n % 2 ^ 32)) ∷ []) ++ (R ADD 5 5 b ∷ [])) ≤ 3
    by true = omega arith
    by false = omega arith

pub access_length : (limit : ℕ) (is : ℕ → ℕ → List Instr) (b n k : ℕ) → length (is b n) ≤ k → length (is 5 0) ≤ k → length (access_code limit is b n) ≤ 3 + k
unfolding access_code
access_length limit is b n k h l = by (ltb n limit)
  where
    by : (t : Bool) → length (cond t (is b n) (point_code b n ++ is 5 0)) ≤ 3 + k
    by true = omega arith
    by false = omega (arith, point_length b n, length-append (point_code b n) (is 5 0))

-- ---- the registers that are accepted

one_registers : (d b : ℕ) → T (ltb d 32 && ltb b 32) → (d < 32) × (b < 32)
one_registers d b h = (ltb→lt d 32 (and_l (ltb d 32) (ltb b 32) h), ltb→lt b 32 (and_r (ltb d 32) (ltb b 32) h))

pair_registers : (d b : ℕ) → T (leb d last_pair && ltb b 32) → (d ≤ last_pair) × (b < 32)
pair_registers d b h =
    (leb→le d last_pair (and_l (leb d last_pair) (ltb b 32) h), ltb→lt b 32 (and_r (leb d last_pair) (ltb b 32) h))

-- an address that t0 holds
at_zero : (u n : ℕ) → w64 (w64 (u + n) + 0) ≡ w64 (u + n)
at_zero u n = omega arith

at_eight : (u n : ℕ) → w64 (w64 (u + n) + 8) ≡ w64 (u + (n + 8))
at_eight u n = omega arith

-- bytes apart from code are apart from its last word
last_word : (a p k : ℕ) → 4 * k + 4 < 2 ^ 64 → Apart a 8 p (4 * k + 4) → Apart a 8 (w64 (p + 4 * k)) 4
last_word a p k l h x g u v = h x g u (omega (arith, dist_ahead p (4 * k) x (omega arith)))

-- ---- single accesses

module _ (d b n : ℕ) (h : one_fault d b n ≡ 0) where
  one_ok : Accepted near (ltb d 32 && ltb b 32) b n
  one_ok = accepted near (ltb d 32 && ltb b 32) b n h

  one_fits : (d < 32) × (b < 32)
  one_fits = one_registers d b one_ok.registers_fit

  pub load_float_valid : Valids (load_float_code d b n)
  load_float_valid = let p = one_fits in access_valid near _ b n p.1 (λ l. omega arith) (omega arith)

  pub save_float_valid : Valids (save_float_code d b n)
  save_float_valid = let p = one_fits in access_valid near _ b n p.1 (λ l. omega arith) (omega arith)

  pub load_int_valid : Valids (load_int_code d b n)
  load_int_valid = let p = one_fits in access_valid near _ b n p.1 (λ l. omega arith) (omega arith)

  -- the float register holds the cell
  pub load_float_runs : AccessLeaves (one_cell b n) (load_float_code d b n) (with_t0 near b n) (λ s. upd s.f d (load8 s.mem (cell_at s b n))) (λ s. s.mem)
  unfolding setx upd
  load_float_runs Q s c =
      let p = one_fits in
      access_runs Q s b n one_ok.within_limit near _ (λ x. x) _ _ p.1 one_ok.base_free
      (λ l. load_float_direct Q s b n _ p.1 l refl c.eights.0 d p.0)
      (λ l. load_float_direct Q _ 5 0 _ (omega arith) (omega arith) (at_zero (getx s b) n) c.eights.0 d p.0)

  -- the register holds the cell; x0 stays 0
  pub load_int_runs : AccessLeaves (one_cell b n) (load_int_code d b n) (λ s. setx (with_t0 near b n s) d (load8 s.mem (cell_at s b n))) (λ s. s.f) (λ s. s.mem)
  unfolding setx upd
  load_int_runs Q s c =
      let p = one_fits in
      access_runs Q s b n one_ok.within_limit near _ (λ x. setx x d (load8 s.mem (cell_at s b n))) _ _ p.1 one_ok.base_free
      (λ l. load_int_direct Q s b n _ p.1 l refl c.eights.0 d p.0)
      (λ l. load_int_direct Q _ 5 0 _ (omega arith) (omega arith) (at_zero (getx s b) n) c.eights.0 d p.0)

  -- the cell holds the float register
  pub save_float_runs : AccessLeaves (one_cell b n) (save_float_code d b n) (with_t0 near b n) (λ s. s.f) (λ s. store8 s.mem (cell_at s b n) (s.f d))
  unfolding setx upd
  save_float_runs Q s c =
      let p = one_fits in
      access_runs Q s b n one_ok.within_limit near _ (λ x. x) _ _ p.1 one_ok.base_free
      (λ l. save_float_direct Q s b n _ p.1 l refl c.eights.0 d p.0)
      (λ l. save_float_direct Q _ 5 0 _ (omega arith) (omega arith) (at_zero (getx s b) n) c.eights.0 d p.0)

-- ---- pairs

near_form : (limit : ℕ) (is : ℕ → ℕ → List Instr) (b n : ℕ) → n < limit → access_code limit is b n ≡ is b n
unfolding access_code
near_form limit is b n l = rw (lt-ltb n limit l)

far_form : (limit : ℕ) (is : ℕ → ℕ → List Instr) (b n : ℕ) → limit ≤ n → access_code limit is b n ≡ point_code b n ++ is 5 0
unfolding access_code
far_form limit is b n l = rw (le-ltb n limit l)

module _ (d b n : ℕ) (h : pair_fault d b n ≡ 0) where
  pair_ok : Accepted near_pair (leb d last_pair && ltb b 32) b n
  pair_ok = accepted near_pair (leb d last_pair && ltb b 32) b n h

  pair_fits : (d ≤ last_pair) × (b < 32)
  pair_fits = pair_registers d b pair_ok.registers_fit

  pub pair_taken : (d ≤ last_pair) × (n ≤ offset_limit)
  pair_taken = (pair_fits.0, pair_ok.within_limit)

  pub load_complex_valid : Valids (load_complex_code d b n)
  load_complex_valid = let p = pair_fits in access_valid near_pair _ b n p.1 (λ l. omega arith) (omega arith)

  pub save_complex_valid : Valids (save_complex_code d b n)
  save_complex_valid = let p = pair_fits in access_valid near_pair _ b n p.1 (λ l. omega arith) (omega arith)

  -- both float registers hold their cells
  pub load_complex_runs : AccessLeaves (two_cells b n) (load_complex_code d b n) (with_t0 near_pair b n) (λ s. upd (upd s.f d (load8 s.mem (cell_at s b n))) (d + 1) (load8 s.mem (cell_at s b (n + 8)))) (λ s. s.mem)
  unfolding setx upd
  load_complex_runs Q s c =
      let p = pair_fits in
      access_runs Q s b n pair_ok.within_limit near_pair _ (λ x. x) _ _ p.1 pair_ok.base_free
      (λ l. load_pair_direct Q s b n _ _ p.1 l refl refl d p.0 c.eights.0 c.eights.1.0)
      (λ l. load_pair_direct Q _ 5 0 _ _ (omega arith) (omega arith) (at_zero (getx s b) n) (at_eight (getx s b) n) d p.0 c.eights.0 c.eights.1.0)

  module _ (Q : Floats) (s : State) where
    -- the first cell and the code have no byte in common
    abbrev Away : Type 0
    Away = Misses (cell_at s b n) (save_complex_code d b n) s

    last_near : n < near_pair → Away → Apart (cell_at s b n) 8 (next s) 4
    last_near l a = last_word (cell_at s b n) s.pc 1 (omega arith) (rw (near_form near_pair _ b n l) at a)

    last_far : near_pair ≤ n → Away → Apart (cell_at s b n) 8 (w64 (w64 (s.pc + 4 * length (point_code b n)) + 4)) 4
    last_far l a =
        let k : ℕ = length (point_code b n) in
        let e : w64 (w64 (s.pc + 4 * k) + 4) ≡ w64 (s.pc + 4 * (k + 1)) = omega arith in
        let g : 4 * (k + 2) ≡ 4 * (k + 1) + 4 = omega arith in
        rw e (last_word (cell_at s b n) s.pc (k + 1) (omega (arith, point_length b n)) (rw (far_form near_pair _ b n l, length-append (point_code b n) _, g) at a))

    -- both cells hold their float registers, where the first misses the code
    pub save_complex_runs : Accessible (two_cells b n s) → Away → Stands (save_complex_code d b n) s → Goes Q (save_complex_code d b n) s (behind (save_complex_code d b n) s (with_t0 near_pair b n s) s.f (store8 (store8 s.mem (cell_at s b n) (s.f d)) (cell_at s b (n + 8)) (s.f (d + 1))))
    unfolding setx upd
    save_complex_runs c away =
        let p = pair_fits in
        access_runs Q s b n pair_ok.within_limit near_pair _ (λ x. x) _ _ p.1 pair_ok.base_free
        (λ l. save_pair_direct Q s b n _ _ p.1 l refl refl d p.0 c.eights.0 c.eights.1.0 (last_near l away))
        (λ l. save_pair_direct Q _ 5 0 _ _ (omega arith) (omega arith) (at_zero (getx s b) n) (at_eight (getx s b) n) d p.0 c.eights.0 c.eights.1.0 (last_far l away))

-- ---- by what the access does

pub one_valid : (k : Cell) (r b n : ℕ) → one_fault r b n ≡ 0 → Valids (one_code k r b n)
one_valid LoadFloat r b n h = load_float_valid r b n h
one_valid SaveFloat r b n h = save_float_valid r b n h
one_valid LoadInt r b n h = load_int_valid r b n h

pub pair_valid : (k : Cell) (r b n : ℕ) → pair_fault r b n ≡ 0 → Valids (pair_code k r b n)
pair_valid LoadFloat r b n h = load_complex_valid r b n h
pair_valid SaveFloat r b n h = save_complex_valid r b n h
pair_valid LoadInt r b n h =
    let p = pair_fits r b n h in
    access_valid near_pair _ b n p.1 (λ l. omega arith) (omega arith)
