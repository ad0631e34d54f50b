use Rattle.accesses.specs.Inner.Plans.{pair_code}
use Rattle.accesses.proofs.Runs.{pair_valid}
use Rattle.accesses.proofs.Lengths.{pair_length}
use Rattle.accesses.proofs.Placed.{pair_as}
use Rattle.accesses.proofs.place_pair.Goals as goal

pub returns-clause-whole : goal.returns-clause-whole
returns-clause-whole c =
    let a = c.args in
    pair_as _ _ _ _ c.settle.ensures.whole (pair_code a.k) a.r a.base a.n c.pair_refusal-f.ensures (pair_valid a.k a.r a.base a.n) (pair_length a.k a.r a.base a.n) c.min.ensures c.min-2.ensures c.pair_plan-p.ensures
