-- The checks of an order, one after the other. Assumes nothing.
use mathlib.Core.Path.{◌≡◌, refl}
use mathlib.Core.Bool.{Bool, true, false, ◌||◌, cond}
use mathlib.Core.List.{List}
use Prim.Native.Nat.{ℕ, ◌+◌, ◌*◌, ◌≤◌, min}
use native.Mathlib.Omega.{arith}
use borrow.Author.Tests.{le-leb, lt-leb, leb-true, leb-false, ne_eqb, eqb-true, eqb-false}
use lib.Dec.{leb, eqb}
use Rattle.std.specs.Prelude.{Result, Ok, Err, OnOk}
use Rattle.base.proofs.Bools.{both, neither}
use Rattle.refusal.specs.declared.Refused.{Refused}
use Rattle.assembler.specs.Bytes.{room}
use Rattle.assembler.specs.State.{State, fits}
use Rattle.assembler.specs.Inner.State.{Fits, Roomy}
use Rattle.assembler.specs.Put.{ranked}
use Rattle.assembler.specs.declared.Asm.{Asm}

pub fits_last : (n : ℕ) (a : Asm) (words jumps r : ℕ) → r ≡ room n → a.len + 4 * words ≤ r → leb (a.jumps + jumps) 4096 ≡ fits n a words jumps
unfolding fits
fits_last n a words jumps r e h = rw (← e, le-leb _ _ h)

pub fits_room : (n : ℕ) (a : Asm) (words jumps : ℕ) → fits n a words jumps ≡ true → Fits n a words jumps
unfolding fits
fits_room n a words jumps e =
    let p = both _ _ e in
    let q = leb-true _ (room n) p.0 in
    (omega (arith, q), omega (arith, q), leb-true _ 4096 p.1)

-- more words than bytes that count have as little room as one for each byte
module _ (w m k : ℕ) (e : m ≡ min w 65536) where
  pub fits_capped : (n : ℕ) (a : Asm) (jumps : ℕ) → fits n a (m + k) jumps ≡ fits n a (w + k) jumps
  unfolding fits
  fits_capped n a jumps = by (leb w 65536) refl
    where
      by : (t : Bool) → leb w 65536 ≡ t → fits n a (m + k) jumps ≡ fits n a (w + k) jumps
      by true q = let z : m ≡ w = omega (arith, e, leb-true w 65536 q) in rw z
      by false q = let h = leb-false w 65536 q in rw (lt-leb (a.len + 4 * (m + k)) (room n) (omega (arith, e, h)), lt-leb (a.len + 4 * (w + k)) (room n) (omega (arith, h)))

  pub room_capped : (r : Result (Unit {0}) Refused) (ts : List ℕ) (s : State) → OnOk r (Roomy (m + k) ts s) → OnOk r (Roomy (w + k) ts s)
  room_capped (Ok x) ts s h = (omega (arith, e, h.0), h.1)
  room_capped (Err x) ts s h = h

module _ (fault : ℕ) (closed sound taken fits : Bool) where
  -- what is known where nothing is refused
  pub ranked_none : ranked fault closed sound taken fits ≡ 0 → (fault ≡ 0) × (fits ≡ true)
  unfolding ranked
  ranked_none e = by closed (eqb fault 1) (eqb fault 3) sound (eqb fault 0) refl taken fits e
    where
      by : (c r l s z : Bool) → eqb fault 0 ≡ z → (t f : Bool) → cond c 8 (cond r 1 (cond l 3 (cond s (cond z (cond t 4 (cond f 0 7)) fault) 2))) ≡ 0 → (fault ≡ 0) × (f ≡ true)
      by true r l s z q t f h = absurd (omega arith)
      by false true l s z q t f h = absurd (omega arith)
      by false false true s z q t f h = absurd (omega arith)
      by false false false false z q t f h = absurd (omega arith)
      by false false false true false q t f h = absurd (eqb-false fault 0 q h)
      by false false false true true q true f h = absurd (omega arith)
      by false false false true true q false true h = (eqb-true fault 0 q, refl)
      by false false false true true q false false h = absurd (omega arith)

  pub v_closed : closed ≡ true → 8 ≡ ranked fault closed sound taken fits
  unfolding ranked
  v_closed e = simp e

  module _ (e : closed ≡ false) where
    pub v_record : (eqb fault 1 || eqb fault 3) ≡ false → sound ≡ false → 2 ≡ ranked fault closed sound taken fits
    unfolding ranked
    v_record h s = let p = neither (eqb fault 1) (eqb fault 3) h in rw (e, p.0, p.1, s)

    module _ (s : sound ≡ true) where
      pub v_fault : (fault ≡ 0 → ⊥) → fault ≡ ranked fault closed sound taken fits
      unfolding ranked
      v_fault z = by (eqb fault 1) (eqb fault 3) refl refl
        where
          by : (r l : Bool) → eqb fault 1 ≡ r → eqb fault 3 ≡ l → fault ≡ ranked fault closed sound taken fits
          by true l p q = rw (e, p) (eqb-true fault 1 p)
          by false true p q = rw (e, p, q) (eqb-true fault 3 q)
          by false false p q = rw (e, p, q, s, ne_eqb fault 0 z)

      pub v_good : fault ≡ 0 → taken ≡ false → fits ≡ true → 0 ≡ ranked fault closed sound taken fits
      unfolding ranked
      v_good z t h = rw (z, e, s, t, h)
