use mathlib.Core.Path.{sym, ◌∙◌}
use Rattle.text.specs.Readers.{read_decimal}
use Rattle.text.proofs.Answers.{empty_integer, minus, plain, plain_is, plain_bad, part_is}
use Rattle.text.proofs.read_integer.Goals as goal

pub returns-then-s-eq0 : goal.returns-then-s-eq0
returns-then-s-eq0 c = rw (empty_integer _ c.if-s-eq0.true)

pub returns-then-s-eq45 : goal.returns-then-s-eq45
returns-then-s-eq45 c =
    let s = c.args.s.now in
    rw (minus s c.if-s-eq0.false c.if-s-eq45.true) (c.read_negative.ensures ∙ rw (part_is s))

pub returns-in_err-magnitude : goal.returns-in_err-magnitude
returns-in_err-magnitude c =
    let s = c.args.s.now in
    c.from_residual.ensures ∙ rw (plain s c.if-s-eq0.false c.if-s-eq45.false) (plain_bad (read_decimal s) (sym c.whole_number.ensures ∙ c.in_err-magnitude.was))

pub returns : goal.returns
returns c =
    let s = c.args.s.now in
    rw (plain s c.if-s-eq0.false c.if-s-eq45.false) (plain_is (read_decimal s) _ (sym c.whole_number.ensures ∙ c.in_ok-magnitude.was))
