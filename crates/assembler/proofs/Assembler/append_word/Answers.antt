use borrow.Author.Rules.{rules}
use mathlib.Core.Path.{refl, sym, ◌∙◌}
use mathlib.Core.List.{[], ◌∷◌}
use Rattle.assembler.specs.Item.{raw}
use Rattle.assembler.specs.State.{before}
use Rattle.assembler.specs.Put.{words, targets, labels}
use Rattle.assembler.proofs.Items.{placed_raw}
use Rattle.assembler.proofs.Steps.{put_refused, put_taken}
use Rattle.assembler.proofs.Assembler.append_word.Goals as goal

pub returns-in_err-check_whole-clause-whole : goal.returns-in_err-check_whole-clause-whole
unfolding words targets labels
returns-in_err-check_whole-clause-whole c = put_refused 0 0 (raw c.args.w ∷ []) (before c.args.self.now) _ _ _ refl (search rules) c.in_err-check_whole.ensures.whole

pub returns-clause-whole : goal.returns-clause-whole
unfolding words targets labels
returns-clause-whole c =
    let s = before c.args.self.now in
    put_taken 0 0 (raw c.args.w ∷ []) s _ _ refl c.in_ok-check_whole.ensures.whole (c.lay.ensures.whole ∙ sym (placed_raw 0 (c.args.w ∷ []) s))
