use mathlib.Core.Path.{sym, ◌∙◌}
use Rattle.form.proofs.Shapes.{no_bits_field, bits_is, bits_bad}
use Rattle.form.proofs.form_bits.Goals as goal

pub returns-then-s-a : goal.returns-then-s-a
returns-then-s-a c = no_bits_field _ _ c.if-s-a.true

pub returns-in_err-n : goal.returns-in_err-n
returns-in_err-n c =
    c.from_residual.ensures ∙ bits_bad c.args.s.now c.args.a c.if-s-a.false (sym c.read_word.ensures ∙ c.in_err-n.was)

pub returns : goal.returns
returns c = bits_is c.args.s.now c.args.a c.if-s-a.false _ (sym c.read_word.ensures ∙ c.in_ok-n.was)
