use mathlib.Core.Path.{◌≡◌, ◌∙◌}
use native.Mathlib.Omega.{arith}
use lib.ListN.{length, get_or}
use Rattle.text.proofs.Once.{is_digit, at_end, at_comma, big_ends, big_stops, big_goes_on}
use Rattle.text.proofs.big_number.Goals as goal

pub returns-then-c-eq44 : goal.returns-then-c-eq44
returns-then-c-eq44 c = big_ends _ _ _ c.loop-i.invariant (at_comma _ _ c.loop-i-test.true c.if-c-eq44.true)

pub returns-then-decimal-gt9 : goal.returns-then-decimal-gt9
returns-then-decimal-gt9 c =
    c.malformed.ensures ∙ big_stops _ _ _ c.loop-i.invariant c.loop-i-test.true c.if-c-eq44.false (c.decimal.ensures.1 c.if-decimal-gt9.true)

pub loop-i-preserved : goal.loop-i-preserved
loop-i-preserved c =
    big_goes_on _ _ _ c.loop-i.invariant c.loop-i-test.true c.if-c-eq44.false (is_digit (get_or c.args.s.now c.loop-i.i 0) c.decimal.result c.decimal.ensures c.if-decimal-gt9.false).1

pub returns : goal.returns
returns c = let e : c.loop-i.i ≡ length c.args.s.now = omega (arith, c.loop-i.invariant.0, c.loop-i-test.false) in
    big_ends c.args.s.now c.args.a _ (rw e at c.loop-i.invariant) (at_end c.args.s.now _ (omega arith))
