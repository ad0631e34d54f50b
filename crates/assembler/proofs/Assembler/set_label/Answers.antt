use borrow.Author.Rules.{rules}
use mathlib.Core.Path.{ap}
use mathlib.Core.List.{[], ◌∷◌}
use Rattle.assembler.specs.Item.{label}
use Rattle.assembler.specs.State.{before}
use Rattle.assembler.specs.Plan.{label_fault}
use Rattle.assembler.specs.Put.{words, targets, labels, verdict, placed, place}
use Rattle.assembler.proofs.Steps.{put_refused, put_taken, label_one}
use Rattle.assembler.proofs.Assembler.set_label.Goals as goal

pub returns-in_err-check_whole-clause-whole : goal.returns-in_err-check_whole-clause-whole
unfolding words targets labels
returns-in_err-check_whole-clause-whole c =
    let s = before c.args.self.now in
    let l = c.args.l in
    put_refused 0 (label_fault l) (label l ∷ []) s _ _ _ (ap (λ f. verdict f (l ∷ []) [] 0 s) (label_one l)) (search rules) c.in_err-check_whole.ensures.whole

pub returns-clause-whole : goal.returns-clause-whole
unfolding words targets labels placed place
returns-clause-whole c =
    let s = before c.args.self.now in
    let l = c.args.l in
    put_taken 0 (label_fault l) (label l ∷ []) s _ _ (ap (λ f. verdict f (l ∷ []) [] 0 s) (label_one l)) c.in_ok-check_whole.ensures.whole c.mark.ensures.whole
