-- Parts of a word as the code takes them out. Assumes nothing.
use mathlib.Core.Path.{◌≡◌}
use mathlib.Core.Bool.{Bool, true, false, cond}
use Prim.Native.Nat.{ℕ, ◌+◌, ◌-◌, ◌^◌, ◌<◌, ◌≤◌}
use native.Mathlib.Omega.{arith}
use lib.Dec.{ltb}
use lib.IntN.{ℤ, pos, negsuc}
use lib.Signed.{mag}
use mir.Syntax.{w32}
use mir.Val.{to_z, of_z}
use Rattle.encoder.proofs.ReadBack.{back}

-- a signed number that is handed on
module _ (n half : ℕ) (in_field : n < half + half) (narrow : half ≤ 1048576) where
  small : mag (cond (ltb n half) (pos n) (negsuc (half + half - 1 - n))) < 2 ^ 31
  small = by (ltb n half)
    where
      by : (t : Bool) → mag (cond t (pos n) (negsuc (half + half - 1 - n))) < 2 ^ 31
      by true = omega arith
      by false = omega arith

  pub back_signed : (z : ℤ) → z ≡ cond (ltb n half) (pos n) (negsuc (half + half - 1 - n)) → to_z w32 (of_z w32 z) ≡ cond (ltb n half) (pos n) (negsuc (half + half - 1 - n))
  back_signed z e = back z _ e small
