-- The sizes of a frame, from its lowest sp up to the call's (document 01, "mod.rs, frames" and "Demand 3").
use Rattle.std.specs.Prelude.{Bool, true, false, not, cond, ℕ, ◌+◌, ◌*◌, eqb}
use Rattle.ast.specs.Count.{cells}
use Rattle.ast.specs.declared.Frame.{Frame}
use Rattle.ast.specs.declared.Frame.TheVariants.{Fast, Indirect}
use Rattle.ast.specs.declared.Head.{Head}
use Rattle.ast.specs.Align.{align16}

-- the table at a1 is used: an indirect frame, a1 not zero
abbrev pub uses_table : Frame → (a1 : ℕ) → Bool
uses_table Fast a1 = false
uses_table Indirect a1 = not (eqb a1 0)

-- `mem` lies in the frame, but where it is the block at a0
abbrev pub holds_mem : Frame → (a1 : ℕ) → Bool
holds_mem Fast a1 = true
holds_mem Indirect a1 = not (eqb a1 0)

-- bytes for `mem`, where the frame holds it
abbrev pub frame_size : Head → ℕ
frame_size H = align16 (8 * cells H)

abbrev pub mem_size : Head → (a1 : ℕ) → ℕ
mem_size H a1 = cond (holds_mem H.frame a1) (frame_size H) 0

-- bytes for `stack`
abbrev pub stack_size : Head → ℕ
stack_size H = align16 (8 * H.cap)

-- bytes for ra and the other whole-number registers, at the top
abbrev pub save_size : Frame → ℕ
save_size Fast = 32
save_size Indirect = 64

-- `stack` lies lowest, then `mem`, then the saved registers; s0 is where those start
abbrev pub below_saves : Head → (a1 : ℕ) → ℕ
below_saves H a1 = stack_size H + mem_size H a1

-- the whole frame
abbrev pub whole_size : Head → (a1 : ℕ) → ℕ
whole_size H a1 = below_saves H a1 + save_size H.frame
