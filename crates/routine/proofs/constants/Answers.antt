use Rattle.std.proofs.Common.{rules, ◌∙◌}
use Rattle.assembler.specs.State.{before}
use Rattle.routine.proofs.Placed.{place_stops, place_goes, places_done}
use Rattle.routine.proofs.constants.Goals as goal

pub returns-in_err-append_const-clause-whole : goal.returns-in_err-append_const-clause-whole
returns-in_err-append_const-clause-whole c = λ line f.
    c.loop-k.invariant.0 line f
    ∙ place_stops c.args.file.now c.args.places.now c.loop-k.k c.loop-k-test.true _ c.constant_at-c.ensures (before c.loop-k.asm) _ line f _ _ (search rules) c.in_err-append_const.ensures.whole

pub loop-k-preserved : goal.loop-k-preserved
loop-k-preserved c = (
  λ line f.
      c.loop-k.invariant.0 line f
      ∙ place_goes c.args.file.now c.args.places.now c.loop-k.k c.loop-k-test.true _ c.constant_at-c.ensures (before c.loop-k.asm) _ line f c.in_ok-append_const.ensures.whole,
  search rules,
)

pub returns-clause-whole : goal.returns-clause-whole
returns-clause-whole c = λ line f. c.loop-k.invariant.0 line f ∙ places_done c.args.file.now c.args.places.now c.loop-k.k c.loop-k-test.false _ line f
