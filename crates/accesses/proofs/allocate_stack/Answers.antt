use native.Mathlib.Omega.{arith}
use Rattle.accesses.specs.Code.{allocate_stack_code}
use Rattle.accesses.proofs.Stack.{allocate_stack_valid}
use Rattle.accesses.proofs.Lengths.{allocate_stack_length}
use Rattle.accesses.proofs.Placed.{stack_as}
use Rattle.accesses.proofs.allocate_stack.Goals as goal

pub returns-clause-whole : goal.returns-clause-whole
returns-clause-whole c =
    let n = c.args.n in
    stack_as _ _ _ _ c.settle.ensures.whole allocate_stack_code n c.stack_refusal-f.ensures (allocate_stack_valid n) (omega (arith, allocate_stack_length n)) c.min.ensures c.allocate_stack_plan-p.ensures
