use native.Mathlib.Omega.{arith}
use Rattle.accesses.specs.Code.{add_stack_code}
use Rattle.accesses.proofs.Stack.{add_stack_valid}
use Rattle.accesses.proofs.Lengths.{add_stack_length}
use Rattle.accesses.proofs.Placed.{stack_as}
use Rattle.accesses.proofs.add_stack.Goals as goal

pub returns-clause-whole : goal.returns-clause-whole
returns-clause-whole c =
    let n = c.args.n in
    stack_as _ _ _ _ c.settle.ensures.whole add_stack_code n c.stack_refusal-f.ensures (add_stack_valid n) (omega (arith, add_stack_length n)) c.min.ensures c.add_stack_plan-p.ensures
