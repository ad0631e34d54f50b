use mathlib.Core.Path.{◌∙◌}
use Rattle.form.proofs.Shapes.{no_first, no_second, no_third, all_three, cell_of, cell_is}
use Rattle.form.proofs.read_cell.Goals as goal

pub returns-in_err-i : goal.returns-in_err-i
returns-in_err-i c =
    c.from_residual.ensures ∙ no_third cell_of _ _ _ c.in_err-i.was ∙ cell_is _ _ _ c.number_at-d.ensures _ _ c.place_at-p.ensures c.read_numbers.ensures

pub returns-in_err-d : goal.returns-in_err-d
returns-in_err-d c =
    c.from_residual-in_err-d.ensures ∙ no_first cell_of _ _ _ c.in_err-d.was ∙ cell_is _ _ _ c.number_at-d.ensures _ _ c.place_at-p.ensures c.read_numbers.ensures

pub returns-in_err-p : goal.returns-in_err-p
returns-in_err-p c =
    c.from_residual-in_err-p.ensures ∙ no_second cell_of _ _ _ c.in_err-p.was ∙ cell_is _ _ _ c.number_at-d.ensures _ _ c.place_at-p.ensures c.read_numbers.ensures

pub returns : goal.returns
returns c =
    all_three cell_of _ _ _ c.in_ok-d.was c.in_ok-p.was c.in_ok-i.was ∙ cell_is _ _ _ c.number_at-d.ensures _ _ c.place_at-p.ensures c.read_numbers.ensures
