use Rattle.std.proofs.lemmas.Result.{err_from_is_err_and}
use mathlib.Core.Path.{refl, sym, ◌∙◌}
use mathlib.Core.List.{[], ◌∷◌}
use lib.ListN.{get_or}
use Rattle.isa.specs.Decode.{f_ops}
use Rattle.isa.specs.Instr.{rounding, f_rounding, FADD_D}
use Rattle.encoder.proofs.Answers.{held, unheld, refused_register, refused_value, small_value, good_value, word_F}
use Rattle.encoder.proofs.ftype.Goals as goal

pub returns-in_err-registers : goal.returns-in_err-registers
returns-in_err-registers c = let p = err_from_is_err_and c.from_residual.result c.from_residual.ensures.1 in rw (p.1, p.2) (refused_register _ c.in_err-registers.ensures)

pub returns-in_err-demand : goal.returns-in_err-demand
returns-in_err-demand c =
    let a = c.args in
    let u = unheld _ _ c.in_err-demand.ensures in
    let p = err_from_is_err_and c.from_residual-in_err-demand.result c.from_residual-in_err-demand.ensures.1 in rw (p.1, p.2) (refused_value _ (a.rd ∷ a.rs1 ∷ a.rs2 ∷ []) (rounding (f_rounding (get_or f_ops a.op FADD_D)) a.rm) refl refl c.in_ok-registers.ensures (sym c.f_rounding.ensures ∙ u.0, u.1))

pub pack-requires : goal.pack-requires
pack-requires c =
    let a = c.args in
    small_value _ (a.rd ∷ a.rs1 ∷ a.rs2 ∷ []) (rounding (f_rounding (get_or f_ops a.op FADD_D)) a.rm) refl refl c.in_ok-registers.ensures (sym c.f_rounding.ensures ∙ held _ _ c.in_ok-demand.ensures) _ (word_F _ _ c.requires c.base.ensures _ _ _ _)

pub returns : goal.returns
returns c =
    let a = c.args in
    good_value _ (a.rd ∷ a.rs1 ∷ a.rs2 ∷ []) (rounding (f_rounding (get_or f_ops a.op FADD_D)) a.rm) refl refl c.in_ok-registers.ensures (sym c.f_rounding.ensures ∙ held _ _ c.in_ok-demand.ensures) _ (c.pack.ensures ∙ word_F _ _ c.requires c.base.ensures _ _ _ _)
