use Rattle.text.proofs.Lined.{ends_here, ends_later, ends_last}
use Rattle.text.proofs.line_end_bytewise.Goals as goal

pub returns-then-file-i-eq10 : goal.returns-then-file-i-eq10
returns-then-file-i-eq10 c = c.loop-i.invariant _ (ends_here c.args.file.now c.loop-i.i c.loop-i-test.true c.if-file-i-eq10.true)

pub loop-i-preserved : goal.loop-i-preserved
loop-i-preserved c =
    λ r e. c.loop-i.invariant r (ends_later c.args.file.now c.loop-i.i c.loop-i-test.true r c.if-file-i-eq10.false e)

pub returns : goal.returns
returns c = ends_last _ _ _ _ c.loop-i-test.false c.loop-i.auto.i-end c.loop-i.invariant c.max.ensures
