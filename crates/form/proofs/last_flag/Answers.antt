use mathlib.Core.Path.{◌∙◌}
use Rattle.form.proofs.Shapes.{flag_not_last, flag_last}
use Rattle.form.proofs.last_flag.Goals as goal

pub returns-then-e-s : goal.returns-then-e-s
returns-then-e-s c =
    let a = c.args in
    flag_not_last a.s.now a.a _ c.field_end-e.ensures.0 c.field_end-e.ensures.1 c.field_end-e.ensures.2 c.if-e-s.true

pub returns : goal.returns
returns c =
    let a = c.args in
    c.read_flag.ensures ∙ flag_last a.s.now a.a _ c.field_end-e.ensures.0 c.field_end-e.ensures.1 c.field_end-e.ensures.2 c.if-e-s.false
