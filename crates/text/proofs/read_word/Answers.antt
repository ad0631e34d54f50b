use mathlib.Core.Path.{sym, ◌∙◌}
use native.Mathlib.Omega.{arith}
use Rattle.std.proofs.lemmas.Option.{cond_some}
use Rattle.text.proofs.Answers.{not_16, word_ends, word_bad, word_low, word_room, word_more}
use Rattle.text.proofs.read_word.Goals as goal

pub returns-then-s-ne16 : goal.returns-then-s-ne16
returns-then-s-ne16 c = not_16 _ c.if-s-ne16.true

pub overflow_mul-v : goal.overflow_mul-v
overflow_mul-v c = record { fits = omega (arith, word_low _ c.if-s-ne16.false _ _ c.loop-c.invariant c.loop-c-test.true) }

pub overflow_add-v : goal.overflow_add-v
overflow_add-v c =
    record { fits = word_room _ c.if-s-ne16.false _ _ c.loop-c.invariant c.loop-c-test.true c.in_ok-v.field-0 (cond_some _ _ _ (sym c.digit.ensures ∙ c.in_ok-v.was)) }

pub loop-c-preserved : goal.loop-c-preserved
loop-c-preserved c =
    word_more _ c.if-s-ne16.false _ _ c.loop-c.invariant c.loop-c-test.true c.in_ok-v.field-0 (cond_some _ _ _ (sym c.digit.ensures ∙ c.in_ok-v.was))

pub returns-in_err-v : goal.returns-in_err-v
returns-in_err-v c =
    c.from_residual.ensures ∙ word_bad _ c.if-s-ne16.false _ _ c.loop-c.invariant c.loop-c-test.true (sym c.digit.ensures ∙ c.in_err-v.was)

pub returns : goal.returns
returns c = word_ends _ c.if-s-ne16.false _ _ c.loop-c.invariant c.loop-c-test.false
