use Rattle.accesses.specs.Inner.Plans.{one_code}
use Rattle.accesses.proofs.Runs.{one_valid}
use Rattle.accesses.proofs.Lengths.{one_length}
use Rattle.accesses.proofs.Placed.{one_as}
use Rattle.accesses.proofs.place_one.Goals as goal

pub returns-clause-whole : goal.returns-clause-whole
returns-clause-whole c =
    let a = c.args in
    one_as _ _ _ _ c.settle.ensures.whole (one_code a.k) a.r a.base a.n c.one_refusal-f.ensures (one_valid a.k a.r a.base a.n) (one_length a.k a.r a.base a.n) c.one_plan.ensures
