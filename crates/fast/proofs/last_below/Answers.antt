use mathlib.Core.Path.{sym, ◌∙◌}
use Rattle.fast.proofs.Fields.{last_none, last_yes, last_no}
use Rattle.fast.proofs.last_below.Goals as goal

pub returns-in_err-x : goal.returns-in_err-x
returns-in_err-x c = c.from_residual.ensures ∙ last_none _ _ _ c.requires.1 c.requires.0 (sym c.short_number.ensures ∙ c.in_err-x.was)

pub returns-then-x-bound : goal.returns-then-x-bound
returns-then-x-bound c = last_yes _ _ _ c.requires.1 c.requires.0 _ (sym c.short_number.ensures ∙ c.in_ok-x.was) c.if-x-bound.true

pub returns-else-x-bound : goal.returns-else-x-bound
returns-else-x-bound c = last_no _ _ _ c.requires.1 c.requires.0 _ (sym c.short_number.ensures ∙ c.in_ok-x.was) c.if-x-bound.false
