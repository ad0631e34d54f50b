use mathlib.Core.Path.{◌∙◌}
use Rattle.form.proofs.Shapes.{no_newline, newline}
use Rattle.form.proofs.read_form.Goals as goal

pub returns : goal.returns
returns c = let h = c.in_ok-strip_suffix.ensures.cases in c.form_body.ensures ∙ rw h.1 (newline _ h.0)

pub returns-in_err-strip_suffix : goal.returns-in_err-strip_suffix
returns-in_err-strip_suffix c = c.from_residual.ensures ∙ no_newline _ c.in_err-strip_suffix.ensures.cases
