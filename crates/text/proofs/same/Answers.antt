use native.Mathlib.Omega.{arith}
use mathlib.Core.Path.{sym, ◌∙◌}
use borrow.Author.Rules.{rules}
use Rattle.text.proofs.Steps.{same_at, differ_at, same_end, same_length}
use Rattle.text.proofs.same.Goals as goal

pub returns-then-s-w : goal.returns-then-s-w
returns-then-s-w c = sym (same_length _ _ c.if-s-w.true)

pub returns-then-s-i : goal.returns-then-s-i
returns-then-s-i c = sym (c.loop-i.invariant.1 ∙ differ_at _ _ _ c.loop-i-test.true (omega arith) c.if-s-i.true)

pub loop-i-preserved : goal.loop-i-preserved
loop-i-preserved c = (search rules, c.loop-i.invariant.1 ∙ same_at _ _ _ c.loop-i-test.true (omega arith) c.if-s-i.false)

pub returns : goal.returns
returns c = sym (c.loop-i.invariant.1 ∙ same_end _ _ _ c.loop-i-test.false (omega arith))
