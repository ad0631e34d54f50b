-- Operands as the code has them, and their text. Assumes nothing.
use mathlib.Core.Path.{◌≡◌, refl, ap, ◌∙◌}
use mathlib.Core.Bool.{Bool, true, false, cond}
use mathlib.Core.List.{List, [], ◌∷◌, ◌++◌, map}
use Prim.Native.Nat.{ℕ, zero, suc, ◌+◌, ◌-◌, ◌^◌, ◌<◌, ◌≤◌}
use native.Mathlib.Numerals.{add-one}
use native.Mathlib.Omega.{arith}
use borrow.Author.Tests.{lt-ltb, le-ltb}
use lib.IntN.{ℤ, pos, negsuc}
use lib.Dec.{ltb}
use lib.ListN.{drop_of_length-le, length, get_or, take, drop, length-append}
use lib.Seq.{drop-cons}
use Rattle.encoder.specs.Sign.{sign_of}
use Rattle.encoder.specs.declared.Sign.TheVariants.{NonNeg, Neg}
use Rattle.text.specs.Digits.{decimal, integer_bytes}
use Rattle.print.specs.Listing.{operands_text}
use Rattle.print.specs.Inner.Listing.{value_text, values_text}
use Rattle.print.proofs.Counts.{decimal_short}

-- ---- one operand

pub small_value : (v : ℕ) → v < 2 ^ 32 → value_text v ≡ decimal v
unfolding value_text
small_value v h = rw (lt-ltb v (2 ^ 32) h)

pub large_value : (v : ℕ) → 2 ^ 32 ≤ v → value_text v ≡ 45 ∷ decimal (v - 2 ^ 32)
unfolding value_text
large_value v h = rw (le-ltb v (2 ^ 32) h)

pub positive : (v : ℕ) → v < 2 ^ 32 → value_text v ≡ integer_bytes (pos v)
unfolding integer_bytes
positive v h = small_value v h

pub negative : (n : ℕ) → value_text (4294967297 + n) ≡ integer_bytes (negsuc n)
unfolding integer_bytes
negative n =
    let e : 4294967297 + n - 2 ^ 32 ≡ suc n = omega arith in
    large_value (4294967297 + n) (omega arith) ∙ ap (λ (k : ℕ). 45 ∷ decimal k) e

pub value_short : (v : ℕ) → v < 2 ^ 64 → length (value_text v) ≤ 21
unfolding value_text
value_short v h = by (ltb v (2 ^ 32))
  where
    by : (t : Bool) → length (cond t (decimal v) (45 ∷ decimal (v - 2 ^ 32))) ≤ 21
    by true = omega (arith, decimal_short 19 v (omega arith))
    by false = omega (arith, decimal_short 19 (v - 2 ^ 32) (omega arith))

-- ---- several

abbrev pub Small : List ℕ → Type 0
Small [] = Unit {0}
Small (v ∷ vs) = (v < 2 ^ 32) × Small vs

pub plain : (n : ℕ) (vs : List ℕ) → Small vs → values_text (take n vs) ≡ operands_text (map pos (take n vs))
unfolding values_text operands_text
plain zero vs h = refl
plain (suc n) [] h = refl
plain (suc n) (v ∷ vs) h = rw (positive v h.0, plain n vs h.1)

pub two_text : (a v : ℕ) (z : ℤ) → a < 2 ^ 32 → value_text v ≡ integer_bytes z → values_text (a ∷ v ∷ []) ≡ operands_text (pos a ∷ z ∷ [])
unfolding values_text operands_text
two_text a v z h e = rw (positive a h, e)

pub three_text : (a b v : ℕ) (z : ℤ) → a < 2 ^ 32 → b < 2 ^ 32 → value_text v ≡ integer_bytes z → values_text (a ∷ b ∷ v ∷ []) ≡ operands_text (pos a ∷ pos b ∷ z ∷ [])
unfolding values_text operands_text
three_text a b v z h g e = rw (positive a h, positive b g, e)

-- ---- a turn of the loops over them

module _ (vs : List ℕ) (j : ℕ) where
  pub value_turn : j < length vs → values_text (drop j vs) ≡ (44 ∷ value_text (get_or vs j 0)) ++ values_text (drop (j + 1) vs)
  unfolding values_text
  value_turn h = ap values_text (drop-cons vs j 0 h) ∙ rw (add-one j)

  pub value_turn_length : j < length vs → length (values_text (drop j vs)) ≡ length (value_text (get_or vs j 0)) + 1 + length (values_text (drop (j + 1) vs))
  value_turn_length h = ap length (value_turn h) ∙ simp length-append (omega arith)

  pub values_end : length vs ≤ j → values_text (drop j vs) ≡ []
  unfolding values_text
  values_end h = ap values_text (drop_of_length-le vs {i = j} h)

-- ---- a signed one, by its sign

pub nonneg : (z : ℤ) (n : ℕ) → sign_of z ≡ NonNeg n → n < 2 ^ 32 → value_text n ≡ integer_bytes z
nonneg (pos m) n e h = let p : m ≡ n = cc in rw (← p) (positive m (omega arith))
nonneg (negsuc m) n e h = let z : ◌≡◌ {A = ℕ} 0 1 = cc in absurd (omega arith)

pub neg : (z : ℤ) (n : ℕ) → sign_of z ≡ Neg n → value_text (4294967297 + n) ≡ integer_bytes z
neg (pos m) n e = let z : ◌≡◌ {A = ℕ} 0 1 = cc in absurd (omega arith)
neg (negsuc m) n e = let p : m ≡ n = cc in rw (← p) (negative m)
