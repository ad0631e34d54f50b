use mathlib.Core.Path.{sym, ◌∙◌}
use native.Mathlib.Omega.{arith}
use Rattle.fast.proofs.Fields.{near_parts, near_within}
use Rattle.fast.proofs.register_at.Goals as goal

pub overflow_add-result : goal.overflow_add-result
overflow_add-result c =
    let n = near_parts c.args.s.now c.args.a _ _ (sym c.near_field.ensures ∙ c.in_ok-x.was) in
    record { fits = omega (arith, n.1, near_within c.args.s.now c.args.a n.2) }
