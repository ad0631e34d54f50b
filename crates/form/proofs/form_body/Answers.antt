use mathlib.Core.Path.{sym, ◌∙◌}
use Rattle.form.proofs.Shapes.{line_is, line_bad}
use Rattle.form.proofs.form_body.Goals as goal

pub returns-in_err-k : goal.returns-in_err-k
returns-in_err-k c =
    c.from_residual.ensures ∙ line_bad c.args.s.now _ c.field_end-e.ensures.0 (sym c.kind_named.ensures ∙ c.in_err-k.was)

pub returns : goal.returns
returns c = c.form_kind.ensures ∙ line_is c.args.s.now _ c.field_end-e.ensures.0 _ (sym c.kind_named.ensures ∙ c.in_ok-k.was)
