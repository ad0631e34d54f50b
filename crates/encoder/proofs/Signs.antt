-- A signed number that is handed on is read back from its bits. Assumes nothing.
use mathlib.Core.Path.{◌≡◌, ap, ◌∙◌}
use lib.IntN.{ℤ}
use mir.Syntax.{w32}
use mir.Val.{SFits, of_z, to_z}
use mir.ValLaws.{to_z-of_z}

-- what a callee promises of a number that is handed on to it
pub handed : {A : Type 0} (g : ℤ → A) (z : ℤ) → SFits w32 z → {r : A} → r ≡ g (to_z w32 (of_z w32 z)) → r ≡ g z
handed g z h e = e ∙ ap g (to_z-of_z w32 z h)
