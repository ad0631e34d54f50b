use mathlib.Core.Path.{sym, ◌∙◌}
use borrow.Author.Rules.{rules}
use Rattle.print.proofs.Fitting.{room_for, put_whole}
use Rattle.print.proofs.Lines.{length_hex}
use Rattle.print.specs.Text.{hex}
use Rattle.print.proofs.hex.Goals as goal

pub hex-requires : goal.hex-requires
hex-requires c =
    let a = c.args in
    room_for (hex a.word) a.at a.out.now (sym (c.room.ensures (hex c.args.word) (sym (length_hex c.args.word))) ∙ c.in_ok-k.was)

pub returns : goal.returns
returns c =
    let p = put_whole (sym (c.room.ensures (hex c.args.word) (sym (length_hex c.args.word))) ∙ c.in_ok-k.was) c.hex.ensures in
    (p.0, let q = p.1 in search rules)

pub returns-in_err-k : goal.returns-in_err-k
returns-in_err-k c = let e = c.room.ensures (hex c.args.word) (sym (length_hex c.args.word)) in search rules
