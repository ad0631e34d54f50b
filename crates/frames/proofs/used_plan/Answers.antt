use borrow.Author.Rules.{rules}
use native.Mathlib.Omega.{arith}
use mathlib.Core.Path.{sym, ◌∙◌}
use Rattle.frames.specs.Inner.Whole.{moved}
use Rattle.frames.proofs.Digits.{lowest, walked}
use Rattle.frames.proofs.Pushes.{Coming, all_pushed, none_left, passed, pushes_one}
use Rattle.frames.proofs.used_plan.Goals as goal
use Rattle.frames.proofs.used_plan.Goals.{then-is_preserved, else-is_preserved}

pub loop-left-init : goal.loop-left-init
unfolding all_pushed
loop-left-init c = let e = walked c.args.mask in (search rules, c.ranges.mask.fits, rw e c.used_count-left.ensures.0, rw (e, c.new-p.ensures))

pub overflow_shr-bits : goal.overflow_shr-bits
overflow_shr-bits c = let i = c.loop-left.invariant in omega (arith, (lowest _ _ _ i.0 i.1 i.2 c.loop-left-test.true).0)

pub loop-left-smaller : goal.loop-left-smaller
loop-left-smaller c = let i = c.loop-left.invariant in omega (arith, (lowest _ _ _ i.0 i.1 i.2 c.loop-left-test.true).0)

pub loop-left-preserved : goal.loop-left-preserved
loop-left-preserved c =
    let i = c.loop-left.invariant in
    let step = lowest _ _ _ i.0 i.1 i.2 c.loop-left-test.true in
    let f = moved c.args.k in
    let next : Coming f _ c.if-is_preserved.p c.if-is_preserved.left _ = elim c.if-is_preserved.branch [
      | then-is_preserved w ↦ rw (w.p-is, w.left-is, w.push-p.ensures, w.used_access.ensures) (pushes_one f _ (i.2, i.3) step.2 (sym c.is_preserved.ensures ∙ w.if-is_preserved.true))
      | else-is_preserved w ↦ rw (w.p-is, w.left-is) (passed f _ (i.2, i.3) step.2 (sym c.is_preserved.ensures ∙ w.if-is_preserved.false))
    ] in (
      step.0,
      step.1,
      next.0,
      next.1,
    )

pub returns : goal.returns
returns c =
    let i = c.loop-left.invariant in
    sym (i.3 ∙ none_left _ _ _ (omega (arith, i.2, c.loop-left-test.false)))
