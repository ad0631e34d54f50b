use mathlib.Core.Path.{sym, ◌∙◌}
use Rattle.form.proofs.Shapes.{no_float_field, float_is, float_bad}
use Rattle.form.proofs.form_float.Goals as goal

pub returns-then-s-a : goal.returns-then-s-a
returns-then-s-a c = no_float_field _ _ c.if-s-a.true

pub returns-in_err-n : goal.returns-in_err-n
returns-in_err-n c =
    c.from_residual.ensures ∙ float_bad c.args.s.now c.args.a c.if-s-a.false (sym c.read_integer.ensures ∙ c.in_err-n.was)

pub returns : goal.returns
returns c = float_is c.args.s.now c.args.a c.if-s-a.false _ (sym c.read_integer.ensures ∙ c.in_ok-n.was)
