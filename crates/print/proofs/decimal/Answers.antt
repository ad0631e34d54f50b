use mathlib.Core.Path.{sym, ◌∙◌}
use borrow.Author.Rules.{rules}
use Rattle.text.specs.Digits.{decimal}
use Rattle.print.proofs.Fitting.{put_whole}
use Rattle.print.proofs.decimal.Goals as goal

pub returns : goal.returns
returns c =
    let p = put_whole (sym (c.room.ensures (decimal c.args.n) c.decimal_length.ensures.0) ∙ c.in_ok-k.was) c.decimal.ensures in
    (p.0, let q = p.1 in search rules)
