use Rattle.std.proofs.Common.{below_more, rules, arith}
use Rattle.finish.proofs.Unset.{or_none}
use Rattle.finish.proofs.is_blank.Goals as goal

pub loop-e-preserved : goal.loop-e-preserved
loop-e-preserved c = λ z. let n = or_none _ _ z in below_more _ _ (c.loop-e.invariant n.0) n.1

pub returns : goal.returns
returns c = λ e i q. let w = c.in-Ok.ensures.1 in rw (← w.same) (c.loop-e.invariant (search (e, rules)) i (omega (arith, q, w.long, c.loop-e-test.false)))
