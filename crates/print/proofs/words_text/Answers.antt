use mathlib.Core.Path.{sym, ◌∙◌}
use native.Mathlib.Nat.{zero-add}
use borrow.Author.Rules.{rules}
use Rattle.print.specs.Text.{code_lines}
use Rattle.print.proofs.Fitting.{from_start, fits}
use Rattle.print.proofs.words_text.Goals as goal

pub returns : goal.returns
returns c =
    let a = c.args in
    let w = c.put_words.ensures in
    let p = fits (code_lines a.code.now) 0 a.out.now _ _ (from_start (code_lines a.code.now) a.out.now (sym c.words_fit.ensures ∙ c.if-not-words_fit.false)) (w.at ∙ zero-add _) w.out in
    (p.0, let q = p.1 in search rules)
