use mathlib.Core.Path.{ap}
use native.Mathlib.Omega.{arith}
use lib.ListN.{length, take}
use lib.Seq.{length-take-le}
use Rattle.print.proofs.Operands.{value_turn_length, values_end}
use Rattle.print.proofs.listing.values_length.Goals as goal

pub loop-v-preserved : goal.loop-v-preserved
loop-v-preserved c =
    let l = c.loop-v in
    let s = c.args.s in
    let h = value_turn_length (take s.n s.values) l.v-index (omega arith) in
    (omega (arith, h, l.invariant.0, c.value_length.ensures.0), omega (arith, l.invariant.1, c.value_length.ensures.1))

pub returns : goal.returns
returns c =
    let l = c.loop-v in
    let s = c.args.s in
    let n = length-take-le s.n s.values (omega (arith, c.requires)) in
    let h = ap length (values_end (take s.n s.values) l.v-index (omega arith)) in
    (omega (arith, h, l.invariant.0), omega (arith, l.invariant.1, n, c.requires))
