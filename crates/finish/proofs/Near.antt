-- The instruction of a jump: what its parts are, and when it is valid. Assumes nothing.
use mathlib.Core.Path.{◌≡◌, refl, sym, ap, ◌∙◌}
use mathlib.Core.Bool.{Bool, true, false, not, ◌&&◌, cond, and-true, not-not}
use Prim.Native.Nat.{ℕ, zero, suc, ◌+◌, ◌-◌, ◌%◌, ◌^◌, ◌≤◌, ◌<◌}
use native.Mathlib.Omega.{arith}
use borrow.Author.Tests.{lt-ltb, le-ltb}
use lib.Dec.{leb, ltb}
use lib.IntN.{ℤ, pos, negsuc, sub_ℕ, ◌-ℤ◌}
use lib.Signed.{mag}
use mir.Syntax.{w32}
use mir.Val.{SFits, to_z, of_z}
use Rattle.isa.specs.Immediate.{twos, lo}
use Rattle.isa.specs.Instr.{holds, offset, valid}
use Rattle.isa.proofs.HiLo.{lo_fits, hi_fits}
use Rattle.encoder.proofs.ReadBack.{sfits, back, back_small}
use Rattle.assembler.specs.Jump.{kind_of, jump_instr}
use Rattle.assembler.specs.declared.JumpKind.TheVariants.{Bne}

-- ---- offsets

module _ (a b : ℕ) where
  pub twos_back : a < b → b < 2 ^ 32 → 4294967295 - (b - a - 1) ≡ twos 32 (sub_ℕ a b)
  twos_back h k = simp (lt-ltb a b h) (omega arith)

  pub twos_on : b ≤ a → a < 2 ^ 32 → a - b ≡ twos 32 (sub_ℕ a b)
  twos_on h k = simp (le-ltb a b h) (omega arith)

pub minus : (a b : ℕ) → pos a -ℤ pos b ≡ sub_ℕ a b
minus a zero = simp (le-ltb a 0 (omega arith)) (ap pos (omega arith))
minus a (suc b) = refl

-- of two locals that hold small numbers
module _ (a b : ℕ) (h : a ≤ 65536) (k : b ≤ 65536) where
  value : to_z w32 a -ℤ to_z w32 b ≡ sub_ℕ a b
  value = rw (back_small a (omega arith), back_small b (omega arith)) (minus a b)

  small : mag (sub_ℕ a b) < 2 ^ 31
  small = by (ltb a b) refl
    where
      by : (t : Bool) → ltb a b ≡ t → mag (cond t (negsuc (b - suc a)) (pos (a - b))) < 2 ^ 31
      by true e = omega arith
      by false e = omega arith

  pub minus_fits : SFits w32 (to_z w32 a -ℤ to_z w32 b)
  minus_fits = rw value (sfits (sub_ℕ a b) small)

  pub offset_back : (z : ℤ) → z ≡ sub_ℕ a b → to_z w32 (of_z w32 z) ≡ sub_ℕ a b
  offset_back z e = back z (sub_ℕ a b) e small

  pub minus_value : to_z w32 (of_z w32 (to_z w32 a -ℤ to_z w32 b)) ≡ sub_ℕ a b
  minus_value = offset_back _ value

pub low_part : (u : ℕ) → lo (u % 4096 + 4) ≡ lo (u + 4)
low_part u =
    let e : (u % 4096 + 4) % 4096 ≡ (u + 4) % 4096 = omega arith in
    rw e

-- ---- kinds

pub last_kind : (k : ℕ) → (k ≡ 0 → ⊥) → (k ≡ 1 → ⊥) → (k ≡ 2 → ⊥) → (k ≡ 3 → ⊥) → (k ≡ 4 → ⊥) → kind_of k ≡ Bne
last_kind zero a b c d e = absurd (a refl)
last_kind (suc zero) a b c d e = absurd (b refl)
last_kind (suc (suc zero)) a b c d e = absurd (c refl)
last_kind (suc (suc (suc zero))) a b c d e = absurd (d refl)
last_kind (suc (suc (suc (suc zero)))) a b c d e = absurd (e refl)
last_kind (suc (suc (suc (suc (suc zero))))) a b c d e = refl
last_kind (suc (suc (suc (suc (suc (suc k)))))) a b c d e = refl

-- a pair is always valid, a branch where B holds its offset
pub near : (k r : ℕ) (z : ℤ) → k < 6 → r < 32 → valid (jump_instr (kind_of k) r z) ≡ not (leb 4 k && not (holds (offset 13 z)))
near zero r z h g = simp (lt-ltb _ _ (hi_fits (twos 32 z)))
near (suc zero) r z h g = simp (lt-ltb r 32 g, lt-ltb _ _ (lo_fits (twos 32 z + 4)))
near (suc (suc zero)) r z h g = simp (lt-ltb r 32 g, lt-ltb _ _ (lo_fits (twos 32 z + 4)))
near (suc (suc (suc zero))) r z h g = simp (lt-ltb r 32 g, lt-ltb _ _ (lo_fits (twos 32 z + 4)))
near (suc (suc (suc (suc zero)))) r z h g = and-true (holds (offset 13 z)) ∙ sym (not-not (holds (offset 13 z)))
near (suc (suc (suc (suc (suc zero))))) r z h g = and-true (holds (offset 13 z)) ∙ sym (not-not (holds (offset 13 z)))
near (suc (suc (suc (suc (suc (suc k)))))) r z h g = absurd (omega arith)
