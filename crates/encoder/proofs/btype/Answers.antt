use Rattle.std.proofs.lemmas.Result.{err_from_is_err_and}
use mathlib.Core.Path.{refl, ◌∙◌}
use mathlib.Core.List.{[], ◌∷◌}
use Rattle.isa.specs.Instr.{offset}
use Rattle.encoder.proofs.Fields.{offset13}
use Rattle.encoder.proofs.Answers.{refused_register, refused_value, small_value, good_value, word_B}
use Rattle.encoder.proofs.btype.Goals as goal

pub returns-in_err-registers : goal.returns-in_err-registers
returns-in_err-registers c = let p = err_from_is_err_and c.from_residual.result c.from_residual.ensures.1 in rw (p.1, p.2) (refused_register _ c.in_err-registers.ensures)

pub returns-in_err-n : goal.returns-in_err-n
returns-in_err-n c =
    let a = c.args in
    let p = err_from_is_err_and c.from_residual-in_err-n.result c.from_residual-in_err-n.ensures.1 in rw (p.1, p.2) (refused_value _ (a.rs1 ∷ a.rs2 ∷ []) (offset 13 a.imm) refl refl c.in_ok-registers.ensures (offset13 a.imm c.ranges.imm c.in_err-n.ensures))

pub pack-requires : goal.pack-requires
pack-requires c =
    let a = c.args in
    let m = offset13 a.imm c.ranges.imm c.in_ok-n.ensures in
    rw c.low_field.ensures (small_value _ (a.rs1 ∷ a.rs2 ∷ []) (offset 13 a.imm) refl refl c.in_ok-registers.ensures m.0 _ (word_B _ _ c.requires c.base.ensures _ _ _ _ m.1))

pub returns : goal.returns
returns c =
    let a = c.args in
    let m = offset13 a.imm c.ranges.imm c.in_ok-n.ensures in
    good_value _ (a.rs1 ∷ a.rs2 ∷ []) (offset 13 a.imm) refl refl c.in_ok-registers.ensures m.0 _ (rw c.low_field.ensures at c.pack.ensures ∙ word_B _ _ c.requires c.base.ensures _ _ _ _ m.1)
