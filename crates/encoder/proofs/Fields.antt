-- The bits that a field's helper answers are the immediate's two's complement, exactly where the field holds it. Assumes nothing.
use mathlib.Core.Path.{◌≡◌, refl, sym}
use mathlib.Core.Bool.{Bool, true, false, cond}
use Prim.Native.Nat.{ℕ, ◌+◌, ◌-◌, ◌%◌, ◌^◌, ◌<◌}
use native.Mathlib.Nat.{mod-eq_of_lt}
use native.Mathlib.Omega.{arith}
use borrow.Author.Tests.{ltb-true}
use lib.Dec.{ltb, eqb}
use lib.IntN.{ℤ, pos, negsuc}
use mir.Syntax.{w32}
use mir.Val.{SFits, of_z, to_z}
use Rattle.isa.specs.Immediate.{twos}
use Rattle.isa.specs.Instr.{signed, offset, unsigned, holds}
use Rattle.encoder.specs.Sign.{sign_of}
use Rattle.encoder.specs.Inner.Field.{signed_field, even_field, unsigned_field}
use Rattle.refusal.specs.Answer.{Answer, accepted, refused}
use Rattle.encoder.proofs.Signs.{handed}

-- refused for a value that does not hold
abbrev pub Unfit : (k p : ℕ) → (holds : Bool) → Type 0
Unfit k p b = (b ≡ false) × ◌≡◌ {A = Answer ℕ} (refused k p) (refused 2 0)

-- what an answer says: whether a value with the two's complement n holds
abbrev pub Means : Answer ℕ → (holds : Bool) → ℕ → Type 0
Means (accepted m) b n = (b ≡ true) × (m ≡ n)
Means (refused k p) b n = Unfit k p b

module _ (w : ℕ) (q : 2 ^ w ≡ 2 ^ (w - 1) + 2 ^ (w - 1)) where
  signed_means : (z : ℤ) → Means (signed_field (2 ^ (w - 1)) (sign_of z)) (holds (signed w z)) (twos w z)
  signed_means (pos n) = by (ltb n (2 ^ (w - 1))) refl
    where
      by : (t : Bool) → ltb n (2 ^ (w - 1)) ≡ t → Means (cond t (accepted n) (refused 2 0)) (holds (signed w (pos n))) (n % 2 ^ w)
      by true e = (e, sym (mod-eq_of_lt (omega (arith, ltb-true n (2 ^ (w - 1)) e))))
      by false e = (e, refl)
  signed_means (negsuc n) = by (ltb n (2 ^ (w - 1))) refl
    where
      by : (t : Bool) → ltb n (2 ^ (w - 1)) ≡ t
          → Means (cond t (accepted (2 ^ (w - 1) + 2 ^ (w - 1) - 1 - n)) (refused 2 0)) (holds (signed w (negsuc n))) (2 ^ w - 1 - n % 2 ^ w)
      by true e =
          let l : n < 2 ^ (w - 1) = ltb-true n (2 ^ (w - 1)) e in
          let m : n % 2 ^ w ≡ n = mod-eq_of_lt (omega arith) in
          (e, rw (m, q))
      by false e = (e, refl)

  offset_means : (z : ℤ) → Means (even_field (signed_field (2 ^ (w - 1)) (sign_of z))) (holds (offset w z)) (twos w z)
  offset_means z = by (signed_field (2 ^ (w - 1)) (sign_of z)) (signed_means z)
    where
      even : (m : ℕ) (t : Bool) → eqb (m % 2) 0 ≡ t → holds (signed w z) ≡ true → m ≡ twos w z
          → Means (cond t (accepted m) (refused 2 0)) (holds (offset w z)) (twos w z)
      even m true e h p = (rw (h, ← p) e, p)
      even m false e h p = (rw (h, ← p) e, refl)

      by : (f : Answer ℕ) → Means f (holds (signed w z)) (twos w z) → Means (even_field f) (holds (offset w z)) (twos w z)
      by (accepted m) h = even m (eqb (m % 2) 0) refl h.0 h.1
      by (refused k p) h = (rw h.0, h.1)

unsigned_means : (w : ℕ) (z : ℤ) → Means (unsigned_field (2 ^ w) (sign_of z)) (holds (unsigned w z)) (twos w z)
unsigned_means w (pos n) = by (ltb n (2 ^ w)) refl
  where
    by : (t : Bool) → ltb n (2 ^ w) ≡ t → Means (cond t (accepted n) (refused 2 0)) (holds (unsigned w (pos n))) (n % 2 ^ w)
    by true e = (e, sym (mod-eq_of_lt (ltb-true n (2 ^ w) e)))
    by false e = (e, refl)
unsigned_means w (negsuc n) = (refl, refl)

-- the same, of the answer f for a number that is handed on
module _ (z : ℤ) (h : SFits w32 z) {f : Answer ℕ} where
  answers : (g : ℤ → Answer ℕ) (b : Bool) (n : ℕ) → Means (g z) b n → f ≡ g (to_z w32 (of_z w32 z)) → Means f b n
  answers g b n m e = rw (handed g z h e) m

  pub signed12 : f ≡ signed_field 2048 (sign_of (to_z w32 (of_z w32 z))) → Means f (holds (signed 12 z)) (twos 12 z)
  signed12 = answers (λ y. signed_field 2048 (sign_of y)) (holds (signed 12 z)) (twos 12 z) (signed_means 12 refl z)

  pub offset13 : f ≡ even_field (signed_field 4096 (sign_of (to_z w32 (of_z w32 z)))) → Means f (holds (offset 13 z)) (twos 13 z)
  offset13 = answers (λ y. even_field (signed_field 4096 (sign_of y))) (holds (offset 13 z)) (twos 13 z) (offset_means 13 refl z)

  pub offset21 : f ≡ even_field (signed_field 1048576 (sign_of (to_z w32 (of_z w32 z)))) → Means f (holds (offset 21 z)) (twos 21 z)
  offset21 = answers (λ y. even_field (signed_field 1048576 (sign_of y))) (holds (offset 21 z)) (twos 21 z) (offset_means 21 refl z)

  pub unsigned6 : f ≡ unsigned_field 64 (sign_of (to_z w32 (of_z w32 z))) → Means f (holds (unsigned 6 z)) (twos 6 z)
  unsigned6 = answers (λ y. unsigned_field 64 (sign_of y)) (holds (unsigned 6 z)) (twos 6 z) (unsigned_means 6 z)

  pub unsigned20 : f ≡ unsigned_field 1048576 (sign_of (to_z w32 (of_z w32 z))) → Means f (holds (unsigned 20 z)) (twos 20 z)
  unsigned20 = answers (λ y. unsigned_field 1048576 (sign_of y)) (holds (unsigned 20 z)) (twos 20 z) (unsigned_means 20 z)
