use borrow.Author.Rules.{rules}
use native.Mathlib.Omega.{arith}
use mathlib.Core.Path.{◌≡◌, ◌∙◌}
use mathlib.Core.List.{◌++◌}
use Prim.Native.Nat.{◌-◌}
use Rattle.assembler.specs.State.{before}
use Rattle.assembler.proofs.Steps.{put_refused}
use Rattle.frame_code.specs.Items.{code, times_over}
use Rattle.frame_code.specs.Inner.Copies.{copy_first, copy_each}
use Rattle.frame_code.proofs.Valid.{first_valid, each_valid}
use Rattle.accesses.proofs.Placed.{plan_code}
use Rattle.frames.specs.Inner.Whole.{is_out}
use Rattle.frames.proofs.Parts.{opens, piece, not_refused, closed, coded, one_of_row}
use Rattle.frames.proofs.Sizes.{first_few, each_few, straight_number}
use Rattle.frames.proofs.straight.Goals as goal

pub returns-in_err-check_whole-clause-whole : goal.returns-in_err-check_whole-clause-whole
returns-in_err-check_whole-clause-whole c =
    let a = c.args in
    let o = is_out a.way in
    put_refused 0 0 (code (copy_first o a.states ++ times_over a.n (copy_each o))) (before a.asm.now) _ _ _ (straight_number o a.states a.n _ (before a.asm.now) c.first_words.ensures.0) (search rules) c.in_err-check_whole.ensures.whole

pub returns-in_err-place-clause-whole : goal.returns-in_err-place-clause-whole
returns-in_err-place-clause-whole c =
    let a = c.args in
    let o = is_out a.way in
    let part = copy_first o a.states in
    let row = times_over a.n (copy_each o) in
    let l0 = opens 0 (code (part ++ row)) (before a.asm.now) _ (straight_number o a.states a.n _ (before a.asm.now) c.first_words.ensures.0) c.in_ok-check_whole.ensures.whole in
    not_refused (code part) (code row) (coded part row l0) (c.in_err-place.ensures.whole ∙ plan_code _ part c.first_plan.ensures (first_few o a.states) (first_valid o a.states) 0 _)

pub loop-init : goal.loop-init
loop-init c =
    let a = c.args in
    let o = is_out a.way in
    let part = copy_first o a.states in
    let row = times_over a.n (copy_each o) in
    let l0 = opens 0 (code (part ++ row)) (before a.asm.now) _ (straight_number o a.states a.n _ (before a.asm.now) c.first_words.ensures.0) c.in_ok-check_whole.ensures.whole in
    let z : a.n - 0 ≡ a.n = omega arith in
    (rw z (piece (code part) (code row) (coded part row l0) (c.in_ok-place.ensures.whole ∙ plan_code _ part c.first_plan.ensures (first_few o a.states) (first_valid o a.states) 0 _)), search rules)

pub returns-in_err-place-2-clause-whole : goal.returns-in_err-place-2-clause-whole
returns-in_err-place-2-clause-whole c =
    let o = is_out c.args.way in
    let each = copy_each o in
    not_refused (code each) _ (one_of_row each c.args.n c.loop.counter c.loop-test.true c.loop.invariant.0) (c.in_err-place-2.ensures.whole ∙ plan_code _ each c.copy_plan-p.ensures (each_few o) (each_valid o) 0 _)

pub loop-preserved : goal.loop-preserved
loop-preserved c =
    let o = is_out c.args.way in
    let each = copy_each o in
    (piece (code each) _ (one_of_row each c.args.n c.loop.counter c.loop-test.true c.loop.invariant.0) (c.in_ok-place-2.ensures.whole ∙ plan_code _ each c.copy_plan-p.ensures (each_few o) (each_valid o) 0 _), search rules)

pub returns-clause-whole : goal.returns-clause-whole
returns-clause-whole c =
    let z : c.args.n - c.loop.counter ≡ 0 = omega arith in
    closed (rw z at c.loop.invariant.0)
