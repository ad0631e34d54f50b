use Rattle.std.proofs.lemmas.Result.{err_from_is_err_and}
use mathlib.Core.Path.{refl, ◌∙◌}
use Rattle.encoder.proofs.Answers.{refused_register, small_registers, good_registers, word_M}
use Rattle.encoder.proofs.mtype.Goals as goal

pub returns-in_err-registers : goal.returns-in_err-registers
returns-in_err-registers c = let p = err_from_is_err_and c.from_residual.result c.from_residual.ensures.1 in rw (p.1, p.2) (refused_register _ c.in_err-registers.ensures)

pub pack-requires : goal.pack-requires
pack-requires c = small_registers _ c.in_ok-registers.ensures refl _ (word_M _ _ c.requires c.base.ensures _ _)

pub returns : goal.returns
returns c = good_registers _ c.in_ok-registers.ensures refl _ (c.pack.ensures ∙ word_M _ _ c.requires c.base.ensures _ _)
