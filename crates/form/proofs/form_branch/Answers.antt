use mathlib.Core.Path.{◌∙◌}
use Rattle.form.specs.declared.Form.{Form}
use Rattle.form.proofs.Shapes.{no_first, no_second, no_third, all_three, branch_is}
use Rattle.form.proofs.form_branch.Goals as goal

pub returns-in_err-e : goal.returns-in_err-e
returns-in_err-e c =
    c.from_residual.ensures ∙ no_third Form.BranchIf _ _ _ c.in_err-e.was ∙ branch_is _ _ _ c.number_at-c.ensures _ _ c.number_at-l.ensures c.last_flag.ensures

pub returns-in_err-c : goal.returns-in_err-c
returns-in_err-c c =
    c.from_residual-in_err-c.ensures ∙ no_first Form.BranchIf _ _ _ c.in_err-c.was ∙ branch_is _ _ _ c.number_at-c.ensures _ _ c.number_at-l.ensures c.last_flag.ensures

pub returns-in_err-l : goal.returns-in_err-l
returns-in_err-l c =
    c.from_residual-in_err-l.ensures ∙ no_second Form.BranchIf _ _ _ c.in_err-l.was ∙ branch_is _ _ _ c.number_at-c.ensures _ _ c.number_at-l.ensures c.last_flag.ensures

pub returns : goal.returns
returns c =
    all_three Form.BranchIf _ _ _ c.in_ok-c.was c.in_ok-l.was c.in_ok-e.was ∙ branch_is _ _ _ c.number_at-c.ensures _ _ c.number_at-l.ensures c.last_flag.ensures
