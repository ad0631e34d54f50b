use Rattle.std.proofs.Common.{rules, arith, ◌≡◌, refl, sym, ◌∙◌, List, [], ◌∷◌, ◌++◌, ℕ, ◌+◌, ◌-◌, ◌≤◌, ◌<◌, length, take, drop}
use lib.ListN.{length-set, drop_of_length-le}
use lib.Seq.{length-take-le}
use Rattle.text.specs.Lines.{lines_of}
use Rattle.assembler.specs.State.{before}
use Rattle.routine.specs.Inner.Places.{constants_at}
use Rattle.routine.specs.Run.{says}
use Rattle.routine.proofs.Lined.{no_lines, lines_end, line_same, line_stops, line_goes, none_waits, constant_room}
use Rattle.routine.proofs.Quick.{fast_passes}
use Rattle.routine.proofs.Placed.{place_kept, places_length}
use Rattle.routine.proofs.body.Goals as goal

pub loop-at-init : goal.loop-at-init
unfolding constants_at
loop-at-init c = (search rules, search rules, search rules, search rules, search rules, refl)

pub loop-at-preserved-then-line : goal.loop-at-preserved-then-line
loop-at-preserved-then-line c =
    let f = c.args.file.now in
    let l = c.loop-at in
    let split = c.line_end-at.ensures.1 c.loop-at-test.true in
    let text = take (c.line_end-at.result - l.at) (drop l.at f) in
    let rest = lines_of (drop c.line_end-at.result f) in
    let kept = constants_at f (take l.k l.places) in (
      split.1,
      omega (arith, split, l.invariant),
      search rules,
      search rules,
      search rules,
      l.invariant.5 ∙ fast_passes c.args.head l.n kept _ rest text (before l.asm) _ split.2 (sym c.if-line.ensures.whole.0),
    )

pub loop-at-preserved-in-Ok-true : goal.loop-at-preserved-in-Ok-true
loop-at-preserved-in-Ok-true c =
    let f = c.args.file.now in
    let l = c.loop-at in
    let split = c.line_end-at.ensures.1 c.loop-at-test.true in
    let text = take (c.line_end-at.result - l.at) (drop l.at f) in
    let rest = lines_of (drop c.line_end-at.result f) in
    let kept = constants_at f (take l.k l.places) in
    let few : length kept ≡ l.k = places_length f (take l.k l.places) ∙ length-take-le l.k l.places (omega (arith, l.invariant)) in
    let step = c.in-Ok-true.ensures.whole ∙ line_same c.args.head (l.n + 1) (says text) (sym few) (c.if-line.ensures.whole.1 refl) in
    let waits = sym c.in-Ok-true.ensures.waits ∙ c.in-Ok-true.field-0-test in
    let has-place : l.k < 1008 = omega (arith, few, constant_room c.args.head (l.n + 1) (length kept) (says text) (before l.asm) _ step waits) in (
      split.1,
      omega (arith, split, l.invariant),
      omega (arith, has-place),
      simp length-set l.invariant.3,
      search rules,
      l.invariant.5 ∙ line_goes c.args.head l.n kept _ rest text split.2 (before l.asm) _ step
          ∙ rw (place_kept f l.places l.k l.at text rest split.2 (omega (arith, has-place, l.invariant.3)) waits),
    )

pub loop-at-preserved : goal.loop-at-preserved
loop-at-preserved c =
    let f = c.args.file.now in
    let l = c.loop-at in
    let split = c.line_end-at.ensures.1 c.loop-at-test.true in
    let text = take (c.line_end-at.result - l.at) (drop l.at f) in
    let rest = lines_of (drop c.line_end-at.result f) in
    let kept = constants_at f (take l.k l.places) in
    let few : length kept ≡ l.k = places_length f (take l.k l.places) ∙ length-take-le l.k l.places (omega (arith, l.invariant)) in
    let step = c.in-Ok-false.ensures.whole ∙ line_same c.args.head (l.n + 1) (says text) (sym few) (c.if-line.ensures.whole.1 refl) in (
      split.1,
      omega (arith, split, l.invariant),
      search rules,
      search rules,
      search rules,
      l.invariant.5 ∙ line_goes c.args.head l.n kept _ rest text split.2 (before l.asm) _ step ∙ rw (none_waits kept (says text) (sym c.in-Ok-false.ensures.waits ∙ c.in-Ok-false.field-0-test)),
    )

pub returns-in-Err-clause-whole : goal.returns-in-Err-clause-whole
returns-in-Err-clause-whole c =
    let f = c.args.file.now in
    let l = c.loop-at in
    let split = c.line_end-at.ensures.1 c.loop-at-test.true in
    let text = take (c.line_end-at.result - l.at) (drop l.at f) in
    let rest = lines_of (drop c.line_end-at.result f) in
    let kept = constants_at f (take l.k l.places) in
    let few : length kept ≡ l.k = places_length f (take l.k l.places) ∙ length-take-le l.k l.places (omega (arith, l.invariant)) in
    let step = c.in-Err.ensures.whole ∙ line_same c.args.head (l.n + 1) (says text) (sym few) (c.if-line.ensures.whole.1 refl) in
    rw c.refused.ensures (line_stops c.args.head l.n kept _ rest text split.2 (before l.asm) _ c.in-Err.e step ∙ sym l.invariant.5)

pub returns-clause-whole : goal.returns-clause-whole
returns-clause-whole c =
    let l = c.loop-at in
    let y : length c.args.file.now ≤ l.at = omega arith in
    c.leave.ensures.whole ∙ sym (l.invariant.5 ∙ lines_end c.args.head l.n _ _ _ (rw (drop_of_length-le c.args.file.now y) no_lines))
