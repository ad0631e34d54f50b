-- How many digits a number has, and the tests for room.
use mathlib.Core.Path.{◌≡◌, refl, sym, ap, ◌∙◌}
use mathlib.Core.Bool.{Bool, true, false, cond}
use Prim.Native.Nat.{ℕ, zero, suc, ◌+◌, ◌*◌, ◌/◌, ◌^◌, ◌<◌, ◌≤◌}
use native.Mathlib.Nat.{mul_comm, div-one, div-div-eq-div-mul, pow-zero, pow-succ', pow-suc}
use native.Mathlib.Omega.{arith}
use borrow.Author.Tests.{ltb-true, lt-ltb, le-ltb, ltb-false}
use lib.Dec.{ltb}
use lib.ListN.{length}
use Rattle.text.specs.Digits.{digits, above, decimal}
use Rattle.text.proofs.Numerals.{length_digits}

pub length_decimal : (n : ℕ) → length (decimal n) ≡ above n n + 1
unfolding decimal
length_decimal n = length_digits 10 (suc (above n n)) n ∙ omega arith

pub as_digits : (k n : ℕ) → k ≡ length (decimal n) → digits 10 k n ≡ decimal n
unfolding decimal
as_digits k n e = ap (λ (j : ℕ). digits 10 j n) (e ∙ length_digits 10 (suc (above n n)) n)

-- more steps than enough alter nothing
above_same : (j k n : ℕ) → n ≤ j → n ≤ k → above j n ≡ above k n
unfolding above
above_same zero zero n h g = refl
above_same zero (suc k) n h g = rw (lt-ltb n 10 (omega arith))
above_same (suc j) zero n h g = rw (lt-ltb n 10 (omega arith))
above_same (suc j) (suc k) n h g = go (ltb n 10) refl (above_same j k (n / 10))
  where
    go : (t : Bool) → ltb n 10 ≡ t → (n / 10 ≤ j → n / 10 ≤ k → above j (n / 10) ≡ above k (n / 10)) → cond t 0 (suc (above j (n / 10))) ≡ cond t 0 (suc (above k (n / 10)))
    go true e r = refl
    go false e r = let l = ltb-false n 10 e in ap suc (r (omega arith) (omega arith))

pub above_small : (n : ℕ) → n < 10 → above n n ≡ 0
unfolding above
above_small zero h = refl
above_small (suc n) h = rw (lt-ltb (suc n) 10 h)

pub above_more : (n : ℕ) → 10 ≤ n → above n n ≡ 1 + above (n / 10) (n / 10)
unfolding above
above_more zero h = absurd (omega arith)
above_more (suc n) h =
    rw (le-ltb (suc n) 10 h) (ap suc (above_same n (suc n / 10) (suc n / 10) (omega arith) (omega arith)) ∙ omega arith)

pow_positive : (k : ℕ) → 1 ≤ 10 ^ k
pow_positive zero = omega arith
pow_positive (suc k) = omega (arith, pow-suc 10 k, pow_positive k)

-- so many digits above the lowest by the power of 10 below n
pub above_power : (k n : ℕ) → 10 ^ k ≤ n → n < 10 * 10 ^ k → above n n ≡ k
above_power zero n h g = above_small n (omega arith)
above_power (suc k) n h g =
    let p : 10 ^ suc k ≡ 10 ^ k * 10 = pow-suc 10 k in
    let q : 1 ≤ 10 ^ k = pow_positive k in
    omega (arith, above_more n (omega (arith, h, p, q)), above_power k (n / 10) (omega (arith, h, p)) (omega (arith, g, p)))

-- a step of the digits' loop
pub shifted : (b n k : ℕ) → n / b ^ suc k ≡ n / b ^ k / b
shifted b n k = rw (pow-succ' b k, mul_comm b (b ^ k)) (sym (div-div-eq-div-mul n (b ^ k) b))

pub whole : (b n : ℕ) → n ≡ n / b ^ 0
whole b n = sym (rw (pow-zero b) (div-one n))

-- n below a power of 10 has no more digits than that
above_below : (k n : ℕ) → n < 10 ^ suc k → above n n ≤ k
above_below zero n h = omega (arith, above_small n h)
above_below (suc k) n h = go (ltb n 10) refl (above_below k (n / 10))
  where
    go : (t : Bool) → ltb n 10 ≡ t → (n / 10 < 10 ^ suc k → above (n / 10) (n / 10) ≤ k) → above n n ≤ suc k
    go true e r = omega (arith, above_small n (ltb-true n 10 e))
    go false e r =
        let g = ltb-false n 10 e in
        let p = pow-suc 10 (suc k) in
        let i : n / 10 < 10 ^ suc k = omega arith in
        omega (arith, above_more n g, r i)

pub decimal_short : (k n : ℕ) → n < 10 ^ suc k → length (decimal n) ≤ suc k
decimal_short k n h = omega (arith, length_decimal n, above_below k n h)
