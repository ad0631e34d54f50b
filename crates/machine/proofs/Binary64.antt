-- IEEE 754 binary64 from the library's definitions: one value of `Floats`, so that what is said of all of them is not empty.
-- A NaN result is the canonical NaN, 0x7ff8000000000000. Every result that is a float is rounded to nearest even, whatever the mode:
-- the library has no other rounding. A float goes to a whole number in each of the five modes.
use mathlib.Core.Path.{refl}
use mathlib.Core.Bool.{Bool, false, not, ◌&&◌, ◌||◌, cond}
use Prim.Native.Nat.{ℕ, zero, suc, ◌+◌, ◌-◌, ◌*◌, ◌/◌, ◌%◌, ◌^◌, min}
use lib.Dec.{eqb, ltb, leb}
use lib.IntN.{ℤ, pos, neg_ℤ, ◌+ℤ◌}
use lib.Ieee as Ieee
use lib.Ieee.{Float, nan, inf, fin, up, down, unlike, round, of_int, of_bits, to_bits, is_nan}
use Rattle.isa.specs.Immediate.{twos, signed}
use Rattle.machine.specs.Floats.{Floats}

unfoldable pub value : ℕ → Float
unfolding of_bits
value a = of_bits Ieee.binary64 a

unfoldable pub bits : Float → ℕ
unfolding to_bits
bits x = to_bits Ieee.binary64 x

-- ---- the fused operations: the exact product, and one rounding

unfoldable pub product : Float → Float → Float
unfolding Ieee.mul
product (fin s m e) (fin t n d) = fin (unlike s t) (m * n) (e +ℤ d)
product (fin s m e) nan = nan
product (fin s m e) (inf t) = Ieee.mul Ieee.binary64 (fin s m e) (inf t)
product nan y = nan
product (inf s) y = Ieee.mul Ieee.binary64 (inf s) y

-- ---- the square root

-- the largest r with r * r ≤ n among r and the k bits below it
unfoldable pub root_from : ℕ → ℕ → ℕ → ℕ
root_from zero r n = r
root_from (suc k) r n = root_from k (cond (leb ((r + 2 ^ k) * (r + 2 ^ k)) n) (r + 2 ^ k) r) n

-- n / 2^1200's root, from 600 digits behind the point and one that says whether it is exact
unfoldable pub root_of : ℕ → Float
unfolding root_from round
root_of n =
    let r = root_from 1200 0 n in
    round Ieee.binary64 false (r * 2 + cond (eqb (r * r) n) 0 1) (2 ^ 601)

unfoldable pub root : Float → Float
unfolding root_of
root nan = nan
root (inf s) = cond s nan (inf s)
root (fin s zero e) = fin s zero e
root (fin s (suc m) e) = cond s nan (root_of (suc m * up e * 2 ^ 1200 / down e))

-- ---- the lesser and the greater: of a NaN and a number the number; -0 is below +0

abbrev pub negative : ℕ → Bool
negative a = leb (2 ^ 63) a

abbrev pub chosen : Bool → ℕ → ℕ → ℕ
chosen b-first a b =
    cond (is_nan (value a)) (cond (is_nan (value b)) (bits nan) b) (cond (is_nan (value b)) a (cond b-first b a))

unfoldable pub lesser : ℕ → ℕ → ℕ
unfolding value bits is_nan Ieee.lt Ieee.eq
lesser a b = chosen (Ieee.lt (value b) (value a) || (Ieee.eq (value b) (value a) && negative b)) a b

unfoldable pub greater : ℕ → ℕ → ℕ
unfolding value bits is_nan Ieee.lt Ieee.eq
greater a b = chosen (Ieee.lt (value a) (value b) || (Ieee.eq (value a) (value b) && negative a)) a b

-- ---- to whole numbers

-- whether the magnitude q + r / den, negative where s is true, goes up to q + 1 in the mode m
abbrev pub goes_up : ℕ → Bool → (q r den : ℕ) → Bool
goes_up zero s q r den = ltb den (r * 2) || (eqb den (r * 2) && eqb (q % 2) 1)
goes_up (suc zero) s q r den = false
goes_up (suc (suc zero)) s q r den = s && ltb 0 r
goes_up (suc (suc (suc zero))) s q r den = not s && ltb 0 r
goes_up (suc (suc (suc (suc m)))) s q r den = leb den (r * 2)

abbrev pub rounded : ℕ → Bool → (num den : ℕ) → ℕ
rounded m s num den = num / den + cond (goes_up m s (num / den) (num % den) den) 1 0

-- a signed whole number of h bits and its sign, or the end of that range; of a NaN the upper end
unfoldable pub whole : ℕ → ℕ → Float → ℤ
whole h m nan = pos (2 ^ h - 1)
whole h m (inf s) = cond s (neg_ℤ (pos (2 ^ h))) (pos (2 ^ h - 1))
whole h m (fin s n e) =
    let k = rounded m s (n * up e) (down e) in
    cond s (neg_ℤ (pos (min k (2 ^ h)))) (pos (min k (2 ^ h - 1)))

unfoldable pub binary64 : Floats
unfolding value bits Ieee.add Ieee.sub Ieee.mul Ieee.div Ieee.neg product root lesser greater Ieee.le Ieee.lt Ieee.eq whole of_int
binary64 =
    record {
      add = λ m a b. bits (Ieee.add Ieee.binary64 (value a) (value b));
      sub = λ m a b. bits (Ieee.sub Ieee.binary64 (value a) (value b));
      mul = λ m a b. bits (Ieee.mul Ieee.binary64 (value a) (value b));
      div = λ m a b. bits (Ieee.div Ieee.binary64 (value a) (value b));
      sqrt = λ m a. bits (root (value a));
      mul_add = λ m a b c. bits (Ieee.add Ieee.binary64 (product (value a) (value b)) (value c));
      mul_sub = λ m a b c. bits (Ieee.sub Ieee.binary64 (product (value a) (value b)) (value c));
      neg_mul_add = λ m a b c. bits (Ieee.add Ieee.binary64 (Ieee.neg (product (value a) (value b))) (value c));
      neg_mul_sub = λ m a b c. bits (Ieee.sub Ieee.binary64 (Ieee.neg (product (value a) (value b))) (value c));
      min = λ m. lesser;
      max = λ m. greater;
      le = λ m a b. Ieee.le (value a) (value b);
      lt = λ m a b. Ieee.lt (value a) (value b);
      eq = λ m a b. Ieee.eq (value a) (value b);
      to_w = λ m a. twos 32 (whole 31 m (value a));
      to_l = λ m a. twos 64 (whole 63 m (value a));
      of_w = λ m n. bits (of_int Ieee.binary64 (signed 32 n));
      of_l = λ m n. bits (of_int Ieee.binary64 (signed 64 n));
      of_w_zero = λ m h. refl;
      of_w_one = λ m h. refl;
      of_w_minus_one = λ m h. refl;
    }
