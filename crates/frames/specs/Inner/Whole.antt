-- What the private functions of the frames promise: parts of a prologue, and copies by the loop.
use Rattle.std.specs.Prelude.{Bool, true, false, List, [], ◌∷◌, ◌++◌, ℕ, ◌*◌, pos}
use Rattle.isa.specs.Register.{t2, s1, s2, s3, s4, s5, a0, a1, a2, a3}
use Rattle.isa.specs.Instr.{Instr}
use Rattle.ast.specs.Mask.{save_cell}
use Rattle.assembler.specs.Item.{Item, jump, label}
use Rattle.accesses.specs.Code.{li_code}
use Rattle.accesses.specs.Plans.{access_instr}
use Rattle.accesses.specs.declared.Cell.{Cell}
use Rattle.frames.specs.declared.Way.{Way}
use Rattle.frames.specs.declared.Way.TheVariants.{In, Out}
use Rattle.assembler.specs.declared.JumpKind.TheVariants.{Beq, Bne}
use Rattle.ast.specs.declared.Frame.TheVariants.{Indirect}
use Rattle.frame_code.specs.Inner.Copies.{copy_first, copy_each, copy_label}
use Rattle.frame_code.specs.Items.{code, mv, opening, at_self, at_main, count_down}

abbrev pub is_out : Way → Bool
is_out In = false
is_out Out = true

-- a preserved register's save or reload
abbrev pub moved : Cell → ℕ → Instr
moved k r = access_instr k r s5 (pos (8 * save_cell r))

-- n copies by the loop
unfoldable pub looped : (out : Bool) → (states n : ℕ) → List Item
looped out states n =
    code (copy_first out states ++ li_code t2 (pos n))
    ++ (label (copy_label out) ∷ (code (copy_each out ++ (count_down ∷ [])) ++ (jump Bne (copy_label out) 0 ∷ [])))

-- an indirect prologue as far as the jump past the copies
unfoldable pub entry : List Item
entry =
    label at_self
    ∷ (code (opening Indirect ++ (mv s1 a0 ∷ mv s2 a1 ∷ mv s3 a2 ∷ mv s4 a3 ∷ [])) ++ (jump Beq at_main 0 ∷ []))
