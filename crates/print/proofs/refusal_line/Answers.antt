use mathlib.Core.Path.{sym, ◌∙◌}
use native.Mathlib.Omega.{arith}
use borrow.Author.Rules.{rules}
use Rattle.print.specs.Text.{refusal_line}
use Rattle.print.proofs.Fitting.{room_for, put_whole}
use Rattle.print.proofs.Lines.{length_refusal_line}
use Rattle.print.proofs.refusal_line.Goals as goal

pub returns-in_err-k : goal.returns-in_err-k
returns-in_err-k c =
    let a = c.args in
    let e = c.room.ensures (refusal_line a.number a.line) (omega (arith, length_refusal_line a.number a.line, c.decimal_length.ensures.0, c.decimal_length-2.ensures.0)) in
    search rules

pub put_refusal_line-requires : goal.put_refusal_line-requires
put_refusal_line-requires c =
    let a = c.args in
    let e = c.room.ensures (refusal_line a.number a.line) (omega (arith, length_refusal_line a.number a.line, c.decimal_length.ensures.0, c.decimal_length-2.ensures.0)) in
    room_for (refusal_line a.number a.line) 0 a.out.now (sym e ∙ c.in_ok-k.was)

pub returns : goal.returns
returns c =
    let a = c.args in
    let e = c.room.ensures (refusal_line a.number a.line) (omega (arith, length_refusal_line a.number a.line, c.decimal_length.ensures.0, c.decimal_length-2.ensures.0)) in
    let p = put_whole (sym e ∙ c.in_ok-k.was) c.put_refusal_line.ensures in
    (p.0, let q = p.1 in search rules)
