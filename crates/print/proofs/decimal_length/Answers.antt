use native.Mathlib.Omega.{arith}
use Rattle.print.proofs.Counts.{length_decimal, above_small, above_power}
use Rattle.print.proofs.decimal_length.Goals as goal

pub returns-in-Some : goal.returns-in-Some
returns-in-Some c =
    let n = c.args.n in
    let e = c.in-Some.ensures in
    (omega (arith, length_decimal n, above_power _ n e.power_le e.next_power_gt), omega (arith, e.bound))

pub returns-in-None : goal.returns-in-None
returns-in-None c =
    let n = c.args.n in
    (omega (arith, length_decimal n, above_small n (omega (arith, c.in-None.ensures.none))), omega arith)
