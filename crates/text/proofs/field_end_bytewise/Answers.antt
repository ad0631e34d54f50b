use mathlib.Core.Path.{sym, ◌∙◌}
use native.Mathlib.Omega.{arith}
use Rattle.text.proofs.Steps.{ends_here, ends_later, ends_last}
use Rattle.text.proofs.field_end_bytewise.Goals as goal

pub returns-then-s-i-eq44 : goal.returns-then-s-i-eq44
returns-then-s-i-eq44 c = (sym (c.loop-i.invariant ∙ ends_here _ _ c.loop-i-test.true c.if-s-i-eq44.true), c.loop-i.auto.i, λ h. omega arith)

pub loop-i-preserved : goal.loop-i-preserved
loop-i-preserved c = c.loop-i.invariant ∙ ends_later _ _ c.loop-i-test.true c.if-s-i-eq44.false

pub returns : goal.returns
returns c = ends_last _ _ _ _ c.loop-i-test.false c.loop-i.auto.i-end c.loop-i.invariant c.max.ensures
