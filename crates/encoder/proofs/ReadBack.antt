-- Signed numbers that are handed on: a local is held as its bits and read back. Assumes nothing.
use mathlib.Core.Path.{◌≡◌}
use Prim.Native.Nat.{ℕ, ◌<◌, ◌^◌}
use native.Mathlib.Omega.{arith}
use lib.IntN.{ℤ, pos, negsuc}
use lib.Signed.{mag}
use mir.Syntax.{w32}
use mir.Val.{SFits, to_z, of_z}
use mir.ValLaws.{to_z_pos, to_z-of_z}
use Rattle.isa.specs.Immediate.{hi, lo}
use Rattle.isa.proofs.HiLo.{lo_fits}

pub sfits : (z : ℤ) → mag z < 2 ^ 31 → SFits w32 z
sfits (pos n) h = record { sfits = h }
sfits (negsuc n) h = record { sfits = h }

-- z is read back as y
pub back : (z y : ℤ) → z ≡ y → mag y < 2 ^ 31 → to_z w32 (of_z w32 z) ≡ y
back z y e h = rw e (to_z-of_z w32 y (sfits y h))

pub back_hi : (z : ℤ) (x : ℕ) → z ≡ pos (hi x) → to_z w32 (of_z w32 z) ≡ pos (hi x)
back_hi z x e = back z (pos (hi x)) e (omega arith)

pub back_lo : (z : ℤ) (x : ℕ) → z ≡ lo x → to_z w32 (of_z w32 z) ≡ lo x
back_lo z x e = back z (lo x) e (omega (arith, lo_fits x))

pub back_small : (n : ℕ) → n < 2 ^ 31 → to_z w32 n ≡ pos n
back_small n h = to_z_pos w32 n h
