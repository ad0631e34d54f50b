use mathlib.Core.Path.{sym, ◌∙◌}
use native.Mathlib.Omega.{arith}
use Rattle.listing.proofs.Noted.{none_noted, passed_by, noted_one, all_noted, no_marks}
use Rattle.listing.proofs.marks.marks_from.Invariants.{from}
use Rattle.listing.proofs.marks.marks_from.Goals as goal

pub loop-at-init : goal.loop-at-init
loop-at-init c = let a = c.args in none_noted (from a.file.now a.at)

pub loop-at-preserved-in_default : goal.loop-at-preserved-in_default
loop-at-preserved-in_default c =
    passed_by (c.line_end-at.ensures.1 c.loop-at-test.true).2 c.loop-at.invariant (sym c.mark_of.ensures ∙ c.in_default.is)

pub loop-at-preserved : goal.loop-at-preserved
loop-at-preserved c =
    let l = c.loop-at in
    noted_one (c.line_end-at.ensures.1 c.loop-at-test.true).2 l.invariant _ (sym c.mark_of.ensures ∙ c.in-Some.is) (omega (arith, l.invariant.few, c.if-k-eq-CONSTANTS.false))

pub returns : goal.returns
returns c =
    let a = c.args in
    all_noted (from a.file.now a.at) _ c.loop-at.marks c.loop-at.k c.loop-at.invariant (λ h. no_marks a.file.now c.loop-at.at (omega arith))
