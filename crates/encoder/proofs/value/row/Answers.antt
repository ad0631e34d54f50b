use mathlib.Core.Path.{sym, ap, ◌∙◌}
use native.Mathlib.Omega.{arith}
use Rattle.encoder.specs.Table.{bare}
use Rattle.encoder.proofs.Answers.{row_F, row_C, row_M, row_R4, row_I, row_Shift, row_S, row_B, row_U}
use Rattle.encoder.proofs.Values.{is_F, is_C, is_M, is_R4, is_I, is_Shift, is_S, is_B, is_U}
use Rattle.encoder.proofs.value.row.Goals as goal

pub returns-in-F : goal.returns-in-F
returns-in-F c = let w = c.within-in-F.ensures in (omega arith, row_F _ w.0 ∙ ap bare (sym (is_F _ _ _ _ _ _ _ c.in-F.is w.1)))

pub returns-in-C : goal.returns-in-C
returns-in-C c = let w = c.within-in-C.ensures in (omega arith, row_C _ w.0 ∙ ap bare (sym (is_C _ _ _ _ _ _ c.in-C.is w.1)))

pub returns-in-M : goal.returns-in-M
returns-in-M c = let w = c.within-in-M.ensures in (omega arith, row_M _ w.0 ∙ ap bare (sym (is_M _ _ _ _ _ c.in-M.is w.1)))

pub returns-in-R4 : goal.returns-in-R4
returns-in-R4 c = let w = c.within-in-R4.ensures in (omega arith, row_R4 _ w.0 ∙ ap bare (sym (is_R4 _ _ _ _ _ _ _ _ c.in-R4.is w.1)))

pub returns-in-I : goal.returns-in-I
returns-in-I c = let w = c.within-in-I.ensures in (omega arith, row_I _ w.0 ∙ ap bare (sym (is_I _ _ _ _ _ _ c.in-I.is w.1)))

pub returns-in-Shift : goal.returns-in-Shift
returns-in-Shift c = let w = c.within-in-Shift.ensures in (omega arith, row_Shift _ w.0 ∙ ap bare (sym (is_Shift _ _ _ _ _ _ c.in-Shift.is w.1)))

pub returns-in-S : goal.returns-in-S
returns-in-S c = let w = c.within-in-S.ensures in (omega arith, row_S _ w.0 ∙ ap bare (sym (is_S _ _ _ _ _ _ c.in-S.is w.1)))

pub returns-in-B : goal.returns-in-B
returns-in-B c = let w = c.within-in-B.ensures in (omega arith, row_B _ w.0 ∙ ap bare (sym (is_B _ _ _ _ _ _ c.in-B.is w.1)))

pub returns-in-U : goal.returns-in-U
returns-in-U c = let w = c.within-in-U.ensures in (omega arith, row_U _ w.0 ∙ ap bare (sym (is_U _ _ _ _ _ c.in-U.is w.1)))
