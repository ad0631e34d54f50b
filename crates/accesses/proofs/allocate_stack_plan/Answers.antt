use mathlib.Core.Path.{◌∙◌, ap}
use native.Mathlib.Omega.{arith}
use lib.IntN.{pos, neg_ℤ}
use Rattle.isa.specs.Instr.{I, ADDI, R, SUB}
use Rattle.assembler.specs.Plan.{pushed}
use Rattle.accesses.proofs.Numbers.{answered_at, back_neg}
use Rattle.accesses.proofs.Planned.{size_direct, size_through, then_base}
use Rattle.accesses.proofs.allocate_stack_plan.Goals as goal

pub returns-then-n-lt2048 : goal.returns-then-n-lt2048
returns-then-n-lt2048 c =
    let n = c.args.n in
    let h = back_neg _ n c.minus.ensures (omega arith) in
    c.two.ensures
    ∙ then_base n _ (size_direct n _ _ _ _ c.if-n-lt2048.true (answered_at _ (I ADDI 2 2) c.addi.ensures h)) c.mv.ensures

pub returns : goal.returns
returns c =
    let n = c.args.n in
    c.push.ensures
    ∙ then_base n _ (c.push-p.ensures
    ∙ ap (λ p. pushed p c.sub.result) c.li_unsigned.ensures
    ∙ size_through n (I ADDI 2 2 (neg_ℤ (pos n))) (pos n) (R SUB 2 2 5) _ c.if-n-lt2048.false c.sub.ensures) c.mv-2.ensures
