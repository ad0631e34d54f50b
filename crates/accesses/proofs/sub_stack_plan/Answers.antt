use mathlib.Core.Path.{◌∙◌, ap}
use native.Mathlib.Omega.{arith}
use lib.IntN.{pos, neg_ℤ}
use Rattle.isa.specs.Instr.{I, ADDI, R, ADD}
use Rattle.assembler.specs.Plan.{pushed}
use Rattle.accesses.specs.Code.{sub_stack_code, li_code}
use Rattle.accesses.specs.Plans.{plan_of}
use Rattle.accesses.proofs.Numbers.{answered_at, back_neg}
use Rattle.accesses.proofs.Planned.{size_direct, size_through}
use Rattle.accesses.proofs.sub_stack_plan.Goals as goal

pub returns-then-n-lt2048 : goal.returns-then-n-lt2048
unfolding sub_stack_code
returns-then-n-lt2048 c =
    let n = c.args.n in
    c.one.ensures
    ∙ size_direct n _ (neg_ℤ (pos n)) (R ADD 2 2 5) _ c.if-n-lt2048.true (answered_at _ (I ADDI 2 2) c.addi.ensures (back_neg _ n c.minus.ensures (omega arith)))

pub returns : goal.returns
unfolding sub_stack_code
returns c =
    let n = c.args.n in
    c.push.ensures
    ∙ ap (λ p. pushed p c.add.result) (c.li_plan.ensures ∙ ap (λ z. plan_of (li_code 5 z)) (back_neg _ n c.minus-2.ensures (omega arith)))
    ∙ size_through n (I ADDI 2 2 (neg_ℤ (pos n))) (neg_ℤ (pos n)) (R ADD 2 2 5) _ c.if-n-lt2048.false c.add.ensures
