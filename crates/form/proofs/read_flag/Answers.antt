use mathlib.Core.Path.{sym, ◌∙◌}
use Rattle.form.specs.Inner.Read.{first}
use Rattle.form.proofs.read_flag.Goals as goal

pub returns-then-same : goal.returns-then-same
unfolding first
returns-then-same c = simp (sym c.same.ensures ∙ c.if-same.true)

pub returns-then-same-2 : goal.returns-then-same-2
unfolding first
returns-then-same-2 c = simp (sym c.same.ensures ∙ c.if-same.false, sym c.same-else-same.ensures ∙ c.if-same-2.true)

pub returns-else-same-2 : goal.returns-else-same-2
unfolding first
returns-else-same-2 c = simp (sym c.same.ensures ∙ c.if-same.false, sym c.same-else-same.ensures ∙ c.if-same-2.false)
