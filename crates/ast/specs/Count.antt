-- The cells of a deck by its line 1 (document 01, "Count").
use Rattle.std.specs.Prelude.{ℕ, ◌+◌}
use Rattle.ast.specs.declared.Place.{Place}
use Rattle.ast.specs.declared.Place.TheVariants.{Mem, Stack, Param}
use Rattle.ast.specs.declared.Frame.{Frame}
use Rattle.ast.specs.declared.Frame.TheVariants.{Fast, Indirect}
use Rattle.ast.specs.declared.Head.{Head}

-- the cells of `mem`: states first, then observations
abbrev pub cells : Head → ℕ
cells H = H.states + H.obs

-- the parameters of an indirect frame; a fast one has none
abbrev pub param_count : Frame → (last : ℕ) → ℕ
param_count Fast n = 0
param_count Indirect n = n

abbrev pub cell_count : Head → Place → ℕ
cell_count H Mem = cells H
cell_count H Stack = H.cap
cell_count H Param = param_count H.frame H.last
