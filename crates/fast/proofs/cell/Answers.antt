use mathlib.Core.Path.{sym, ◌∙◌}
use native.Mathlib.Omega.{arith}
use Rattle.fast.proofs.Fields.{register_small, last_below, cell_early, cell_short, cell_no_place, cell_no_last, cell_is}
use Rattle.fast.proofs.cell.Goals as goal

pub returns-in_err-x : goal.returns-in_err-x
returns-in_err-x c = c.from_residual.ensures ∙ cell_early _ _ _ (sym c.register_at.ensures ∙ c.in_err-x.was)

pub returns-then-f-s : goal.returns-then-f-s
returns-then-f-s c =
    let g = c.field_end-f in
    cell_short _ _ _ _ _ (sym c.register_at.ensures ∙ c.in_ok-x.was) g.result g.ensures.0 g.ensures.1 c.if-f-s.true

pub returns-in_err-p : goal.returns-in_err-p
returns-in_err-p c =
    let g = c.field_end-f in
    c.from_residual-in_err-p.ensures
    ∙ cell_no_place _ _ _ _ _ (sym c.register_at.ensures ∙ c.in_ok-x.was) g.result g.ensures.0 g.ensures.1 c.if-f-s.false (sym c.read_place.ensures ∙ c.in_err-p.was)

pub returns-in_err-y : goal.returns-in_err-y
returns-in_err-y c =
    let g = c.field_end-f in
    c.from_residual-in_err-y.ensures
    ∙ cell_no_last _ _ _ _ _ (sym c.register_at.ensures ∙ c.in_ok-x.was) g.result g.ensures.0 g.ensures.1 c.if-f-s.false _ (sym c.read_place.ensures ∙ c.in_ok-p.was) (sym c.last_below.ensures ∙ c.in_err-y.was)

pub overflow_mul-result-2 : goal.overflow_mul-result-2
overflow_mul-result-2 c =
    record { fits = omega (arith, last_below c.args.s.now _ 4096 _ (sym c.last_below.ensures ∙ c.in_ok-y.was)) }

pub overflow_add-result-2 : goal.overflow_add-result-2
overflow_add-result-2 c =
    record { fits = omega (arith, register_small _ _ _ _ (sym c.register_at.ensures ∙ c.in_ok-x.was), last_below c.args.s.now _ 4096 _ (sym c.last_below.ensures ∙ c.in_ok-y.was)) }

pub overflow_mul-result-3 : goal.overflow_mul-result-3
overflow_mul-result-3 c =
    record { fits = omega (arith, register_small _ _ _ _ (sym c.register_at.ensures ∙ c.in_ok-x.was), last_below c.args.s.now _ 4096 _ (sym c.last_below.ensures ∙ c.in_ok-y.was)) }

pub overflow_add-result-3 : goal.overflow_add-result-3
overflow_add-result-3 c =
    record { fits = omega (arith, c.requires, c.place_number.ensures.1, register_small _ _ _ _ (sym c.register_at.ensures ∙ c.in_ok-x.was), last_below c.args.s.now _ 4096 _ (sym c.last_below.ensures ∙ c.in_ok-y.was)) }

pub returns : goal.returns
returns c =
    let g = c.field_end-f in
    cell_is _ _ _ _ _ (sym c.register_at.ensures ∙ c.in_ok-x.was) g.result g.ensures.0 g.ensures.1 c.if-f-s.false _ (sym c.read_place.ensures ∙ c.in_ok-p.was) _ _ (sym c.last_below.ensures ∙ c.in_ok-y.was) c.place_number.ensures.0
