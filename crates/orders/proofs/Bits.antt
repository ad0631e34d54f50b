-- 64-bit values that the orders' words compute, in the meaning's terms. Assumes nothing.
use mathlib.Core.Path.{◌≡◌, refl, ◌∙◌, ap, fun_ext}
use mathlib.Core.Bool.{Bool, true, false, not, cond}
use Prim.Native.Nat.{ℕ, zero, suc, ◌-◌, ◌*◌, ◌/◌, ◌%◌, ◌^◌, ◌<◌, max}
use native.Mathlib.Nat.{pow-suc, mod-eq_of_lt, zero-max, max-zero}
use native.Mathlib.Omega.{arith}
use borrow.Author.Tests.{eqb-true}
use lib.Dec.{eqb}
use lib.Pow.{pow_pos}
use lib.Bits.{bit_and, bit_or, bit_xor, or_step, and_zero_r, and_mask, and_shr, and_mod, xor_shr, xor_mod}
use Rattle.machine.specs.Word.{w64, upd}
use Rattle.machine.specs.Floats.{Floats}
use Rattle.machine.specs.Effect.{bit, minus, sign, with_sign}
use Rattle.reading.specs.Meaning.{all_ones, mask, choose, sign_bits}

-- a comparison's answer as a mask
pub negated : (b : Bool) → minus 0 (bit b) ≡ mask b
negated true = refl
negated false = refl

pub negated_inverted : (b : Bool) → bit_xor (minus 0 (bit b)) all_ones ≡ mask (not b)
negated_inverted true = refl
negated_inverted false = refl

-- the difference of two comparisons, converted
pub sign_converted : (Q : Floats) (a b : Bool) → w64 (Q.of_w 0 (minus (bit a) (bit b) % 2 ^ 32)) ≡ sign_bits a b
sign_converted Q true true = rw (Q.of_w_zero 0 (omega arith))
sign_converted Q true false = rw (Q.of_w_one 0 (omega arith))
sign_converted Q false true = rw (Q.of_w_minus_one 0 (omega arith))
sign_converted Q false false = rw (Q.of_w_zero 0 (omega arith))

-- a float with its own sign
pub own_sign : (v : ℕ) → v < 2 ^ 64 → with_sign (sign v) v ≡ v
own_sign v h = omega arith

-- a register to itself
pub upd_self : (f : ℕ → ℕ) (d s : ℕ) → eqb d s ≡ true → f ≡ upd f d (f s)
unfolding upd
upd_self f d s e = fun_ext (λ j. by j (eqb j d) refl)
  where
    by : (j : ℕ) (t : Bool) → eqb j d ≡ t → f j ≡ cond t (f s) (f j)
    by j true q = ap f (eqb-true j d q ∙ eqb-true d s e)
    by j false q = refl

-- ---- bits that choose

half_ones : (n : ℕ) → ((2 ^ suc n - 1) / 2 ≡ 2 ^ n - 1) × ((2 ^ suc n - 1) % 2 ≡ 1)
half_ones n =
    let p : 2 ^ suc n ≡ 2 ^ n * 2 = pow-suc 2 n in
    let q : 0 < 2 ^ n = pow_pos n in
    (omega arith, omega arith)

-- one bit: z chooses x or y
one_bit : (x y z : ℕ) → x < 2 → y < 2 → z < 2 → cond (eqb z 1) x y ≡ max (bit_and x z) (bit_and y (bit_xor z 1))
one_bit x y zero h k l = rw (and_zero_r x, and_mask y 1, zero-max (y % 2), mod-eq_of_lt k)
one_bit x y (suc zero) h k l = rw (and_zero_r y, and_mask x 1, max-zero (x % 2), mod-eq_of_lt h)
one_bit x y (suc (suc z)) h k l = absurd (omega arith)

pub chosen : (n c a b : ℕ) → c < 2 ^ n → a < 2 ^ n → b < 2 ^ n → choose n c a b ≡ bit_or (bit_and a c) (bit_and b (bit_xor c (2 ^ n - 1)))
unfolding choose
chosen zero c a b h k l =
    let p : c ≡ 0 = omega arith in
    let q : a ≡ 0 = omega arith in
    let r : b ≡ 0 = omega arith in
    rw (p, q, r)
chosen (suc n) c a b h k l =
    let w : 2 ^ suc n ≡ 2 ^ n * 2 = pow-suc 2 n in
    let o = half_ones n in
    let m : ℕ = 2 ^ suc n - 1 in
    let e = chosen n (c / 2) (a / 2) (b / 2) (omega arith) (omega arith) (omega arith) in
    let d : cond (eqb (c % 2) 1) (a % 2) (b % 2) ≡ max (bit_and (a % 2) (c % 2)) (bit_and (b % 2) (bit_xor (c % 2) 1)) = one_bit (a % 2) (b % 2) (c % 2) (omega arith) (omega arith) (omega arith) in
    rw (or_step (bit_and a c) (bit_and b (bit_xor c m)), and_shr a c 1, and_shr b (bit_xor c m) 1, xor_shr c m 1, o.0, and_mod a c 1, and_mod b (bit_xor c m) 1, xor_mod c m 1, o.1, e, d)
