use borrow.Author.Rules.{rules}
use mathlib.Core.Path.{ap, ◌∙◌}
use mathlib.Core.List.{[], ◌∷◌}
use Rattle.std.specs.Option.{option_map}
use Rattle.assembler.specs.Item.{jump}
use Rattle.assembler.specs.State.{before}
use Rattle.assembler.specs.Plan.{refusal_of, jump_fault}
use Rattle.assembler.specs.Put.{words, targets, labels, verdict, placed, place}
use Rattle.assembler.proofs.Plans.{earlier_none}
use Rattle.assembler.proofs.Steps.{put_refused, put_taken}
use Rattle.assembler.proofs.Assembler.jump.Goals as goal

pub returns-in_err-check_whole-clause-whole : goal.returns-in_err-check_whole-clause-whole
unfolding words targets labels
returns-in_err-check_whole-clause-whole c =
    let s = before c.args.self.now in
    let a = c.args in
    let e = ap (λ f. verdict f [] (a.l ∷ []) 1 s) (earlier_none (option_map refusal_of c.jump_fault.result) ∙ c.jump_fault.ensures) in
    put_refused a.tag (jump_fault a.r) (jump a.k a.l a.r ∷ []) s _ _ _ e (search rules) c.in_err-check_whole.ensures.whole

pub returns-clause-whole : goal.returns-clause-whole
unfolding words targets labels placed place
returns-clause-whole c =
    let s = before c.args.self.now in
    let a = c.args in
    let e = ap (λ f. verdict f [] (a.l ∷ []) 1 s) (earlier_none (option_map refusal_of c.jump_fault.result) ∙ c.jump_fault.ensures) in
    put_taken a.tag (jump_fault a.r) (jump a.k a.l a.r ∷ []) s _ _ e c.in_ok-check_whole.ensures.whole c.reserve.ensures.whole
