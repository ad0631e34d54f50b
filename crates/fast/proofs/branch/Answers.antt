use mathlib.Core.Path.{sym, ◌∙◌}
use native.Mathlib.Omega.{arith}
use Rattle.fast.proofs.Fields.{register_within, stop_fits, branch_early, branch_no_number, branch_no_label, branch_no_flag, branch_is}
use Rattle.fast.proofs.branch.Goals as goal

pub returns-in_err-x : goal.returns-in_err-x
returns-in_err-x c = c.from_residual.ensures ∙ branch_early _ _ _ (sym c.register_at.ensures ∙ c.in_err-x.was)

pub slice_bounds-short_field-count : goal.slice_bounds-short_field-count
slice_bounds-short_field-count c = register_within _ _ _ _ (sym c.register_at.ensures ∙ c.in_ok-x.was)

pub slice_bounds-short_field-start : goal.slice_bounds-short_field-start
slice_bounds-short_field-start c = register_within _ _ _ _ (sym c.register_at.ensures ∙ c.in_ok-x.was)

pub returns-in_err-y : goal.returns-in_err-y
returns-in_err-y c =
    c.from_residual-in_err-y.ensures ∙ branch_no_number _ _ _ _ _ (sym c.register_at.ensures ∙ c.in_ok-x.was) _ c.short_field-label.ensures c.in_err-y.was

pub returns-then-y-ge1024 : goal.returns-then-y-ge1024
returns-then-y-ge1024 c =
    branch_no_label _ _ _ _ _ (sym c.register_at.ensures ∙ c.in_ok-x.was) _ c.short_field-label.ensures _ c.in_ok-y.was c.if-y-ge1024.true

pub overflow_add-b : goal.overflow_add-b
overflow_add-b c = record { fits = omega (arith, stop_fits _ _ 0 _ _ (sym c.register_at.ensures ∙ c.in_ok-x.was) _ c.short_field-label.ensures) }

pub overflow_add-b-2 : goal.overflow_add-b-2
overflow_add-b-2 c = record { fits = omega (arith, stop_fits _ _ 0 _ _ (sym c.register_at.ensures ∙ c.in_ok-x.was) _ c.short_field-label.ensures) }

pub returns-in_err-other : goal.returns-in_err-other
returns-in_err-other c =
    c.from_residual-in_err-other.ensures
    ∙ branch_no_flag _ _ _ _ _ (sym c.register_at.ensures ∙ c.in_ok-x.was) _ c.short_field-label.ensures _ c.in_ok-y.was (sym c.last_flag.ensures ∙ c.in_err-other.was)

pub returns : goal.returns
returns c =
    branch_is _ _ _ _ _ (sym c.register_at.ensures ∙ c.in_ok-x.was) _ c.short_field-label.ensures _ c.in_ok-y.was _ _ c.if-y-ge1024.false (sym c.last_flag.ensures ∙ c.in_ok-other.was) c.flag_number.ensures.0
