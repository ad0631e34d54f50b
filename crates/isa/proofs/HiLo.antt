-- `hi` and `lo` add up to the number they were taken from. Assumes nothing.
use mathlib.Core.Path.{◌≡◌, refl}
use mathlib.Core.Logic.{◌⊎◌, inl, inr}
use mathlib.Core.Bool.{Bool, true, false, cond}
use Prim.Native.Nat.{ℕ, ◌+◌, ◌-◌, ◌*◌, ◌%◌, ◌^◌, ◌≤◌, ◌<◌}
use native.Mathlib.Omega.{arith}
use borrow.Author.Tests.{ltb-true, ltb-false}
use lib.Dec.{ltb}
use lib.IntN.{ℤ, pos, negsuc}
use lib.Signed.{mag}
use Rattle.isa.specs.Immediate.{twos, hi, lo}

-- the two cases of `lo`
module _ (P : ℤ → Type 0) (x : ℕ) (low : x % 4096 < 2048 → P (pos (x % 4096))) (high : 2048 ≤ x % 4096 → P (negsuc (4095 - x % 4096))) where
  pub lo_cases : P (lo x)
  lo_cases = by (ltb (x % 4096) 2048) refl
    where
      by : (t : Bool) → ltb (x % 4096) 2048 ≡ t → P (cond t (pos (x % 4096)) (negsuc (4095 - x % 4096)))
      by true e = low (ltb-true (x % 4096) 2048 e)
      by false e = high (ltb-false (x % 4096) 2048 e)

-- both are in their fields
pub lo_fits : (x : ℕ) → mag (lo x) < 2048
lo_fits x = lo_cases (λ z. mag z < 2048) x (λ h. h) (λ h. omega arith)

pub hi_fits : (x : ℕ) → hi x < 1048576
hi_fits x = omega arith

-- as 32-bit numbers they add up to x
pub hi_lo : (x : ℕ) → x < 4294967296 → (hi x * 4096 + twos 32 (lo x)) % 4294967296 ≡ x
hi_lo x b = lo_cases (λ z. (hi x * 4096 + twos 32 z) % 4294967296 ≡ x) x (λ h. omega arith) (λ h. omega arith)

-- a 32-bit number's 64 bits, the sign coming in
abbrev pub widened : ℕ → ℕ
widened x = (x + 2147483648) % 4294967296 + 18446744071562067968

widened_low : (x : ℕ) → x < 0x80000000 → widened x ≡ x + 2 ^ 64
widened_low x h = omega arith

widened_high : (x : ℕ) → 0x80000000 ≤ x → x < 4294967296 → widened x ≡ x + 18446744069414584320
widened_high x h b = omega arith

-- x and its upper part y are on one side of 2^31
abbrev Beside : ℕ → ℕ → Type 0
Beside x y = ((x < 0x80000000) × (y < 0x80000000)) ⊎ ((0x80000000 ≤ x) × (0x80000000 ≤ y))

module _ (x y n : ℕ) (b : x < 4294967296) (c : y < 4294967296) (h : (y + n) % 2 ^ 64 ≡ x) where
  beside : Beside x y → (widened y + n) % 2 ^ 64 ≡ widened x % 2 ^ 64
  beside (inl s) = rw (widened_low x s.0, widened_low y s.1) (omega arith)
  beside (inr s) = rw (widened_high x s.0 b, widened_high y s.1 c) (sides x y n h)
    where
      sides : (x y n : ℕ) → (y + n) % 2 ^ 64 ≡ x → (y + 18446744069414584320 + n) % 2 ^ 64 ≡ (x + 18446744069414584320) % 2 ^ 64
      sides x y n h = omega arith

-- but where `hi` wraps to 0, x being the last 2048 numbers
wrapped : (x : ℕ) → 0xFFFFF800 ≤ x → x < 4294967296 → (widened 0 + (2 ^ 64 - 1 - (4294967295 - x))) % 2 ^ 64 ≡ widened x % 2 ^ 64
wrapped x l b = rw (widened_high x (omega arith) b) (omega arith)

-- As 64-bit numbers, each with its sign, they add up to x with its sign, but for 0x7FFFF800..0x7FFFFFFF.
abbrev pub AddUp : ℕ → Type 0
AddUp x = (widened (hi x * 4096) + twos 64 (lo x)) % 2 ^ 64 ≡ widened x % 2 ^ 64

module _ (y l x : ℕ) (b : x < 4294967296) where
  sum_up : y + l ≡ x → (y + l % 2 ^ 64) % 2 ^ 64 ≡ x
  sum_up e = omega arith

  sum_down : l < 4096 → y + l ≡ x + 4096 → (y + (2 ^ 64 - 1 - (4095 - l) % 2 ^ 64)) % 2 ^ 64 ≡ x
  sum_down h e = omega arith

module _ (x : ℕ) (b : x < 4294967296) where
  abbrev upper : ℕ
  upper = hi x * 4096

  -- the upper part and the low one give x
  low_sum : x % 4096 < 2048 → (upper + x % 4096 % 2 ^ 64) % 2 ^ 64 ≡ x
  low_sum h = let e : upper + x % 4096 ≡ x = omega arith in sum_up upper (x % 4096) x b e

  high_sum : 2048 ≤ x % 4096 → x < 0xFFFFF800 → (upper + (2 ^ 64 - 1 - (4095 - x % 4096) % 2 ^ 64)) % 2 ^ 64 ≡ x
  high_sum h l = let e : upper + x % 4096 ≡ x + 4096 = omega arith in sum_down upper (x % 4096) x b (omega arith) e

  small : upper < 4294967296
  small = omega arith

  pub hi_lo_low : x < 0x7FFFF800 → AddUp x
  hi_lo_low l =
      lo_cases (λ z. (widened upper + twos 64 z) % 2 ^ 64 ≡ widened x % 2 ^ 64) x
      (λ h. beside x upper _ b small (low_sum h) (inl (omega arith)))
      (λ h. beside x upper _ b small (high_sum h (omega arith)) (inl (omega arith)))

  wraps : 2048 ≤ x % 4096 → 0xFFFFF800 ≤ x → (upper ≡ 0) × ((4095 - x % 4096) % 2 ^ 64 ≡ 4294967295 - x)
  wraps h l = omega arith

  pub hi_lo_high : 0x80000000 ≤ x → AddUp x
  hi_lo_high l =
      lo_cases (λ z. (widened upper + twos 64 z) % 2 ^ 64 ≡ widened x % 2 ^ 64) x
      (λ h. beside x upper _ b small (low_sum h) (inr (omega arith)))
      (λ h. by (ltb x 0xFFFFF800) refl h)
    where
      by : (t : Bool) → ltb x 0xFFFFF800 ≡ t → 2048 ≤ x % 4096 → (widened upper + twos 64 (negsuc (4095 - x % 4096))) % 2 ^ 64 ≡ widened x % 2 ^ 64
      by true e h =
          let s : x < 0xFFFFF800 = ltb-true x 0xFFFFF800 e in
          beside x upper _ b small (high_sum h s) (inr (omega arith))
      by false e h =
          let s : 0xFFFFF800 ≤ x = ltb-false x 0xFFFFF800 e in
          let w = wraps h s in
          rw (w.0, w.1) (wrapped x s b)
