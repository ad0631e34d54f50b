use mathlib.Core.Path.{refl, sym, ◌∙◌}
use borrow.Author.Rules.{rules}
use Rattle.print.proofs.Fitting.{put_whole}
use Rattle.print.proofs.reason.put_text.Goals as goal

pub returns : goal.returns
returns c =
    let p = put_whole (sym (c.room.ensures c.args.s.now refl) ∙ c.in_ok-n.was) c.bytes.ensures in
    (p.0, let q = p.1 in search rules)
