-- The parts that `lui` or `auipc` and the word behind it add up to. Assumes nothing.
use mathlib.Core.Path.{◌≡◌, refl, ap, ◌∙◌}
use mathlib.Core.Bool.{Bool, true, false, cond}
use Prim.Native.Nat.{ℕ, suc, ◌+◌, ◌-◌, ◌*◌, ◌%◌, ◌^◌, ◌≤◌, ◌<◌}
use native.Mathlib.Omega.{arith}
use borrow.Author.Tests.{lt-ltb, le-ltb, ltb-true, ltb-false}
use lib.Dec.{ltb}
use lib.IntN.{ℤ, pos, negsuc, sub_ℕ}
use lib.Signed.{mag}
use Rattle.isa.specs.Immediate.{twos, signed, hi, lo}
use Rattle.isa.specs.Instr.{IOp, ADDI, ADDIW}
use Rattle.isa.proofs.HiLo.{lo_cases, widened, AddUp, hi_lo_low, hi_lo_high}
use Rattle.machine.specs.Word.{w64, sext}
use Rattle.machine.specs.Effect.{upper}
use Rattle.machine.proofs.Memory.{wrap_l}
use Rattle.accesses.specs.Code.{top, low_op}

upper_hi : (x : ℕ) → upper (pos (hi x)) ≡ w64 (widened (hi x * 4096))
upper_hi x = let e : hi x % 2 ^ 20 ≡ hi x = omega arith in rw e

-- from the sum of 64-bit numbers to that of the machine
added : (x : ℕ) (v : ℕ) → AddUp x → w64 (widened x) ≡ v → w64 (upper (pos (hi x)) + twos 64 (lo x)) ≡ v
added x v h e = rw (upper_hi x, wrap_l (widened (hi x * 4096)) (twos 64 (lo x)), h) e

-- z is 32 bits with a sign, below the top
abbrev pub Plain : ℤ → Type 0
Plain (pos n) = n < top
Plain (negsuc n) = n < 2 ^ 31

-- z in two parts
pub parts : (z : ℤ) → Plain z → w64 (upper (pos (hi (twos 32 z))) + twos 64 (lo (twos 32 z))) ≡ twos 64 z
parts (pos n) l =
    let e : n % 2 ^ 32 ≡ n = omega arith in
    rw e (added n (n % 2 ^ 64) (hi_lo_low n (omega arith) (omega arith)) (omega arith))
parts (negsuc n) l =
    let e : n % 2 ^ 32 ≡ n = omega arith in
    rw e (added (2 ^ 32 - 1 - n) _ (hi_lo_high (2 ^ 32 - 1 - n) (omega arith) (omega arith)) (omega arith))

-- at the top the sum's low 32 bits are n
top_sum : (k : ℕ) → 2048 ≤ k → k < 4096 → sext 32 (upper (pos 0x80000) + twos 64 (negsuc (4095 - k))) ≡ 0x7FFFF000 + k
top_sum k h l = omega arith

pub top_parts : (n : ℕ) → top ≤ n → n < 2 ^ 31 → sext 32 (upper (pos (hi (twos 32 (pos n)))) + twos 64 (lo (twos 32 (pos n)))) ≡ n % 2 ^ 64
top_parts n h l =
    let e : n % 2 ^ 32 ≡ n = omega arith in
    let g : hi n ≡ 0x80000 = omega arith in
    rw (e, g) (lo_cases (λ z. sext 32 (upper (pos 0x80000) + twos 64 z) ≡ n % 2 ^ 64) n (λ k. absurd (omega arith)) (λ k. top_sum (n % 4096) k (omega arith) ∙ omega arith))

pub plain_op : (z : ℤ) → Plain z → low_op z ≡ ADDI
plain_op (pos n) h = rw (lt-ltb n top h)
plain_op (negsuc n) h = refl

top_op : (n : ℕ) → top ≤ n → low_op (pos n) ≡ ADDIW
top_op n h = rw (le-ltb n top h)

-- both cases of the second word, for 32 bits with a sign
module _ (P : IOp → Type 0) where
  pub low_cases : (z : ℤ) → mag z < 2 ^ 31 → (Plain z → P ADDI) → ((n : ℕ) → z ≡ pos n → top ≤ n → P ADDIW) → P (low_op z)
  low_cases (pos n) h a b = by (ltb n top) refl
    where
      by : (t : Bool) → ltb n top ≡ t → P (low_op (pos n))
      by true e = let l : n < top = ltb-true n top e in rw (plain_op (pos n) l) (a l)
      by false e = let l : top ≤ n = ltb-false n top e in rw (top_op n l) (b n refl l)
  low_cases (negsuc n) h a b = a h

-- and added to an address
pub parts_from : (a : ℕ) (z : ℤ) → Plain z → w64 (w64 (a + upper (pos (hi (twos 32 z)))) + twos 64 (lo (twos 32 z))) ≡ w64 (a + twos 64 z)
parts_from a z t =
    let u : ℕ = upper (pos (hi (twos 32 z))) in
    let v : ℕ = twos 64 (lo (twos 32 z)) in
    let e : w64 (u + v) ≡ twos 64 z = parts z t in
    rw (← e) (plain u v)
  where
    plain : (u v : ℕ) → w64 (w64 (a + u) + v) ≡ w64 (a + w64 (u + v))
    plain u v = omega arith

-- ---- a pair of jumps: `auipc` at `here`, its second word behind it, and the place p of their label

module _ (p here : ℕ) (hp : p < 2 ^ 20) (hh : here < 2 ^ 20) where
  away : (P : ℤ → Type 0) → (here ≤ p → P (pos (p - here))) → (p < here → P (negsuc (here - suc p))) → P (sub_ℕ p here)
  away P a b = by (ltb p here) refl
    where
      by : (t : Bool) → ltb p here ≡ t → P (cond t (negsuc (here - suc p)) (pos (p - here)))
      by true e = b (ltb-true p here e)
      by false e = a (ltb-false p here e)

  twos32_away : twos 32 (sub_ℕ p here) ≡ (p + (2 ^ 32 - here)) % 2 ^ 32
  twos32_away = away (λ z. twos 32 z ≡ (p + (2 ^ 32 - here)) % 2 ^ 32) (λ l. omega arith) (λ l. omega arith)

  twos64_away : twos 64 (sub_ℕ p here) ≡ (p + (2 ^ 64 - here)) % 2 ^ 64
  twos64_away = away (λ z. twos 64 z ≡ (p + (2 ^ 64 - here)) % 2 ^ 64) (λ l. omega arith) (λ l. omega arith)

  plain_away : Plain (sub_ℕ p here)
  plain_away = away Plain (λ l. omega arith) (λ l. omega arith)

module _ (start p here : ℕ) (hp : p < 2 ^ 20) (hh : here + 4 < 2 ^ 20) where
  low_away : lo (twos 32 (sub_ℕ p (here + 4)) + 4) ≡ lo (twos 32 (sub_ℕ p here))
  low_away = ap (signed 12) e
    where
      e : (twos 32 (sub_ℕ p (here + 4)) + 4) % 4096 ≡ twos 32 (sub_ℕ p here) % 4096
      e = rw (twos32_away p (here + 4) hp hh, twos32_away p here hp (omega arith)) (omega arith)

  -- The pair reaches the label's place, wherever the code starts.
  pub pair_reaches : w64 (w64 (w64 (start + here) + upper (pos (hi (twos 32 (sub_ℕ p here))))) + twos 64 (lo (twos 32 (sub_ℕ p (here + 4)) + 4))) ≡ w64 (start + p)
  pair_reaches =
      rw (low_away, parts_from (w64 (start + here)) (sub_ℕ p here) (plain_away p here hp (omega arith)), twos64_away p here hp (omega arith)) (omega arith)
