use Rattle.std.proofs.Common.{rules, sym, ◌∙◌}
use Rattle.finish.specs.Finish.{label_good}
use Rattle.finish.proofs.Unset.{all_behind, all_within, all_none, good_all}
use Rattle.finish.proofs.labels_good.Goals as goal

pub returns-then-not-are_good : goal.returns-then-not-are_good
returns-then-not-are_good c =
    let e = all_within (label_good c.args.len) c.loop-block.block-iterator.rest.now c.in-Some.block.now c.next.new.self.rest.now
    c.in-Some.ensures.steps.1.0 (λ h. search (c.are_good.ensures.1 h, c.if-not-are_good.true, rules)) in
    sym (c.loop-block.invariant ∙ e) ∙ good_all c.args.len c.args.labels.now (search rules)

pub loop-block-preserved : goal.loop-block-preserved
loop-block-preserved c = c.loop-block.invariant ∙ all_behind _ _ _ _ c.in-Some.ensures.steps.1.0 (c.are_good.ensures.0 c.if-not-are_good.false)

pub returns : goal.returns
returns c =
    let e = all_none (label_good c.args.len) c.loop-block.block-iterator.rest.now (search (c.in-None.ensures.steps, rules)) in
    sym (c.loop-block.invariant ∙ e) ∙ good_all c.args.len c.args.labels.now (search rules)
