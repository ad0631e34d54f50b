use mathlib.Core.Path.{ap, ◌∙◌}
use native.Mathlib.Omega.{arith}
use Rattle.form.specs.Inner.Names.{code_at}
use Rattle.text.proofs.Words.{with_comma}
use Rattle.form.proofs.Names.{short_coded}
use Rattle.form.proofs.name.code_to.Goals as goal

pub returns : goal.returns
returns c =
    let w = c.word_to-w in
    let a = c.args in
    let l = with_comma a.s.now a.e (λ z. c.if-w-eq0.false (w.ensures.0 ∙ z)) in
    c.short_code.ensures ∙ ap code_at (w.ensures.0 ∙ l.0) ∙ short_coded _ (w.ensures.1 (omega (arith, c.if-w-eq0.false))) l.1
