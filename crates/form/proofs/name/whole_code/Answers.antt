use mathlib.Core.Path.{ap, ◌∙◌}
use native.Mathlib.Omega.{arith}
use Rattle.form.specs.Inner.Names.{code_at}
use Rattle.form.proofs.Names.{short_coded}
use Rattle.form.proofs.name.whole_code.Goals as goal

pub returns : goal.returns
returns c =
    c.short_code.ensures ∙ ap code_at c.name_word.ensures.0 ∙ short_coded _ c.name_word.ensures.1 (omega (arith, c.if-s-gt6.false))
