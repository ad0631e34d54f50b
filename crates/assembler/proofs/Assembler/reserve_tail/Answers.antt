use lib.ListN.{length, get_or}
use native.Mathlib.Omega.{arith}
use mathlib.Core.Path.{ap, ◌∙◌}
use Rattle.assembler.specs.Label.{made}
use Rattle.assembler.specs.State.{State}
use Rattle.assembler.specs.Put.{targets, with_jump, placed, place}
use Rattle.assembler.proofs.Writes.{length_written}
use Rattle.assembler.proofs.Numbers.{one_fits, two_fit, second_fits}
use Rattle.assembler.proofs.Assembler.reserve_tail.Goals as goal

pub reserve-requires : goal.reserve-requires
unfolding targets
reserve-requires c =
    let p = rw c.in-One.is at c.requires in
    let h = one_fits c.args.self.now.labels.now c.in-One.l p.1 in
    omega (arith, p.0, h)

pub reserve-requires-in-Pair : goal.reserve-requires-in-Pair
unfolding targets
reserve-requires-in-Pair c =
    let h = rw c.in-Pair.is at c.requires in
    let k = two_fit c.args.self.now.labels.now c.in-Pair.l h.1 in
    omega (arith, h.0, k)

pub reserve-requires-in-Pair-2 : goal.reserve-requires-in-Pair-2
unfolding with_jump targets
reserve-requires-in-Pair-2 c =
    let h = rw c.in-Pair.is at c.requires in
    let m = c.args.self.now.labels.now in
    let l = c.in-Pair.l in
    let k = two_fit m l h.1 in
    let e = c.reserve-in-Pair.ensures.whole in
    let n = ap (λ (s : State). s.asm.len) e in
    let j = ap (λ (s : State). s.asm.jumps) e in
    let b = ap (λ (s : State). length s.buf) e in
    let v = ap (λ (s : State). made (get_or s.labels l 0)) e in
    omega (arith, h.0, k, n, j, b, length_written, v, second_fits m l k.1)

pub returns-in-Nothing-clause-whole : goal.returns-in-Nothing-clause-whole
unfolding placed
returns-in-Nothing-clause-whole c = rw c.in-Nothing.is

pub returns-in-One-clause-whole : goal.returns-in-One-clause-whole
unfolding placed place
returns-in-One-clause-whole c = rw c.in-One.is c.reserve.ensures.whole

pub returns-in-Pair-clause-whole : goal.returns-in-Pair-clause-whole
unfolding placed place
returns-in-Pair-clause-whole c = rw c.in-Pair.is (c.reserve-in-Pair-2.ensures.whole ∙ rw c.reserve-in-Pair.ensures.whole)
