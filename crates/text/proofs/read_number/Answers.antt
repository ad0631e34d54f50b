use mathlib.Core.Path.{◌≡◌, sym, ◌∙◌}
use native.Mathlib.Omega.{arith}
use lib.ListN.{length, get_or}
use Rattle.text.proofs.Once.{is_digit, at_end, at_comma, first_zero, scan_starts, scan_ends, scan_bad, scan_zero, scan_big, scan_goes_on}
use Rattle.text.proofs.read_number.Goals as goal
use Rattle.text.proofs.read_number.Goals.{then-d-gt9-via-then-d-gt9, then-d-gt9-via-else-d-gt9+then-i-gt0, then-v-eq0, else-v-eq0}

pub loop-i-init : goal.loop-i-init
loop-i-init c = scan_starts c.args.s.now

pub returns-then-c-eq44 : goal.returns-then-c-eq44
returns-then-c-eq44 c =
    c.scanned.ensures ∙ scan_ends _ _ _ c.loop-i.invariant (at_comma _ _ c.loop-i-test.true c.if-c-eq44.true)

pub returns-then-d-gt9 : goal.returns-then-d-gt9
returns-then-d-gt9 c =
    c.malformed.ensures ∙ elim c.then-d-gt9.branch [
      | then-d-gt9-via-then-d-gt9 w ↦ scan_bad _ _ _ c.loop-i.invariant c.loop-i-test.true c.if-c-eq44.false (c.decimal-d.ensures.1 w.if-d-gt9.true)
      | then-d-gt9-via-else-d-gt9+then-i-gt0 w ↦ scan_zero _ _ _ c.loop-i.invariant c.loop-i-test.true c.if-c-eq44.false w.if-i-gt0.true.0 w.if-i-gt0.true.1
    ]

pub returns-then-is_big : goal.returns-then-is_big
returns-then-is_big c =
    let digit = is_digit (get_or c.args.s.now c.loop-i.i 0) c.decimal-d.result c.decimal-d.ensures c.if-d-gt9.false in
    c.big_number.ensures ∙ scan_big _ _ _ c.loop-i.invariant c.loop-i-test.true c.if-c-eq44.false c.decimal-d.result digit (sym c.is_big.ensures ∙ c.if-is_big.true)

pub loop-i-preserved : goal.loop-i-preserved
loop-i-preserved c =
    let digit = is_digit (get_or c.args.s.now c.loop-i.i 0) c.decimal-d.result c.decimal-d.ensures c.if-d-gt9.false in
    scan_goes_on _ _ _ c.loop-i.invariant c.loop-i-test.true c.if-c-eq44.false c.decimal-d.result digit (first_zero _ _ c.if-i-gt0.either) (sym c.is_big.ensures ∙ c.if-is_big.false)

pub returns : goal.returns
returns c =
    let e : c.loop-i.i ≡ length c.args.s.now = omega (arith, c.loop-i.invariant.0, c.loop-i-test.false) in
    c.scanned-2.ensures ∙ scan_ends c.args.s.now _ _ (rw e at c.loop-i.invariant) (at_end c.args.s.now _ (omega arith))
