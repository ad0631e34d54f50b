use Rattle.std.proofs.Common.{arith}
use Rattle.ast.proofs.Masked.{open_below, open_low, open_high, open_above}
use Rattle.ast.proofs.is_open.Goals as goal

pub returns-in-4-to-5 : goal.returns-in-4-to-5
returns-in-4-to-5 c =
    let a = c.args in
    rw (c.in-Stack.is, c.in_mask.ensures) (open_low a.mask a.i (omega arith) (omega arith))

pub returns-in-6-to-15 : goal.returns-in-6-to-15
returns-in-6-to-15 c =
    let a = c.args in
    rw (c.in-Stack.is, c.in_mask-in-6-to-15.ensures) (open_high a.mask a.i (omega arith) (omega arith))

pub returns-in_default : goal.returns-in_default
returns-in_default c = rw c.in-Stack.is (open_below c.args.mask c.args.i (omega arith))

pub returns-in_default-2 : goal.returns-in_default-2
returns-in_default-2 c = rw c.in-Stack.is (open_above c.args.mask c.args.i (omega arith))
