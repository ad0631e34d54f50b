-- Which bytes of a number are c, by its bits.
use mathlib.Core.Path.{◌≡◌, ap, ◌∙◌, subst}
use mathlib.Core.Bool.{Bool, true, cond}
use Prim.Native.Nat.{ℕ, zero, suc, ◌+◌, ◌*◌, ◌/◌, ◌%◌, ◌^◌, ◌<◌}
use native.Mathlib.Omega.{arith}
use borrow.Author.Tests.{eqb-true}
use lib.Arith.{lt-one}
use lib.Bits.{bit_and, bit_or, bit_xor, and_le_r, or_lt, xor_lt, and_block, or_block, xor_block}
use lib.Dec.{eqb}
use lib.Pow.{shr_lt}
use Rattle.text.specs.Inner.Parts.{each, marks}
use Rattle.base.proofs.Tested.{every, tested}

-- what the bit operations make of x, where m, s and o have c, 127 and 255 in each byte
abbrev pub marked : ℕ → ℕ → ℕ → ℕ → ℕ
marked m s o x = bit_xor (bit_or (bit_or (bit_and (bit_xor x m) s + s) (bit_xor x m)) s) o

abbrev mark : ℕ → ℕ → ℕ
mark c b = cond (eqb b c) 128 0

-- one byte: a computed test of all
abbrev pub right : ℕ → ℕ → Bool
right c b = eqb (marked c 127 255 b) (mark c b)

module _ (c : ℕ) (small : c < 256) (test : every (right c) 256 ≡ true) where
  -- the operations keep to their bytes
  byte_apart : (x m s o b : ℕ) → b < 256 → marked (m * 256 + c) (s * 256 + 127) (o * 256 + 255) (x * 256 + b) ≡ marked m s o x * 256 + mark c b
  byte_apart x m s o b h =
      let y = bit_xor b c in
      let t = bit_and y 127 + 127 in
      let v = bit_xor x m in
      let w = bit_and v s + s in
      let yl : y < 256 = xor_lt 8 b c h small in
      let tl : t < 256 = omega (arith, and_le_r y 127) in
      let ul : bit_or t y < 256 = or_lt 8 t y tl yl in
      let vl : bit_or (bit_or t y) 127 < 256 = or_lt 8 (bit_or t y) 127 ul (omega arith) in
      let sum : bit_and v s * 256 + bit_and y 127 + (s * 256 + 127) ≡ w * 256 + t = omega arith in
      rw (
        xor_block 8 x m b c h small,
        and_block 8 v s y 127 yl (omega arith),
        sum,
        or_block 8 w v t y tl yl,
        or_block 8 (bit_or w v) s (bit_or t y) 127 ul (omega arith),
        xor_block 8 (bit_or (bit_or w v) s) o (bit_or (bit_or t y) 127) 255 vl (omega arith),
        eqb-true (marked c 127 255 b) (mark c b) (tested (right c) 256 b test h),
      )

  pub marks_right : (k x : ℕ) → x < 2 ^ (k * 8) → marked (each c k) (each 127 k) (each 255 k) x ≡ marks c k x
  unfolding each marks
  marks_right zero x h = rw (lt-one h)
  marks_right (suc k) x h =
      let q : x ≡ x / 256 * 256 + x % 256 = omega arith in
      let e : suc k * 8 ≡ k * 8 + 8 = omega arith in
      let l : x / 256 < 2 ^ (k * 8) = shr_lt (k * 8) 8 (subst (λ (n : ℕ). x < 2 ^ n) e h) in
      ap (marked (each c k * 256 + c) (each 127 k * 256 + 127) (each 255 k * 256 + 255)) q
      ∙ byte_apart (x / 256) (each c k) (each 127 k) (each 255 k) (x % 256) (omega arith)
      ∙ ap (λ (n : ℕ). n * 256 + mark c (x % 256)) (marks_right k (x / 256) l)
