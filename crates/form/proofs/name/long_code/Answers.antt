use mathlib.Core.Path.{sym, ◌∙◌}
use Rattle.form.proofs.Names.{is_mul_add, is_mul_sub, is_neg_mul_add, is_neg_mul_sub, is_load_const, is_indirect, no_long}
use Rattle.form.proofs.name.long_code.Goals as goal

pub returns-then-same : goal.returns-then-same
returns-then-same c = is_mul_add _ (sym c.same.ensures ∙ c.if-same.true)

pub returns-then-same-2 : goal.returns-then-same-2
returns-then-same-2 c = is_mul_sub _ (sym c.same-2.ensures ∙ c.if-same-2.true)

pub returns-then-same-3 : goal.returns-then-same-3
returns-then-same-3 c = is_neg_mul_add _ (sym c.same-3.ensures ∙ c.if-same-3.true)

pub returns-then-same-4 : goal.returns-then-same-4
returns-then-same-4 c = is_neg_mul_sub _ (sym c.same-4.ensures ∙ c.if-same-4.true)

pub returns-then-same-5 : goal.returns-then-same-5
returns-then-same-5 c = is_load_const _ (sym c.same-5.ensures ∙ c.if-same-5.true)

pub returns-then-same-6 : goal.returns-then-same-6
returns-then-same-6 c = is_indirect _ (sym c.same-6.ensures ∙ c.if-same-6.true)

pub returns : goal.returns
returns c =
    no_long c.args.s.now c.requires (sym c.same.ensures ∙ c.if-same.false) (sym c.same-2.ensures ∙ c.if-same-2.false) (sym c.same-3.ensures ∙ c.if-same-3.false)
    (sym c.same-4.ensures ∙ c.if-same-4.false) (sym c.same-5.ensures ∙ c.if-same-5.false) (sym c.same-6.ensures ∙ c.if-same-6.false)
