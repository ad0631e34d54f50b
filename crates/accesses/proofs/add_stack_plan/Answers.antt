use mathlib.Core.Path.{◌∙◌, ap}
use native.Mathlib.Omega.{arith}
use lib.IntN.{pos}
use Rattle.isa.specs.Instr.{I, ADDI, R, ADD}
use Rattle.assembler.specs.Plan.{pushed}
use Rattle.accesses.specs.Code.{add_stack_code}
use Rattle.accesses.proofs.Numbers.{answered_at, back_small}
use Rattle.accesses.proofs.Planned.{size_direct, size_through}
use Rattle.accesses.proofs.add_stack_plan.Goals as goal

pub returns-then-n-lt2048 : goal.returns-then-n-lt2048
unfolding add_stack_code
returns-then-n-lt2048 c =
    let n = c.args.n in
    c.one.ensures
    ∙ size_direct n _ (pos n) (R ADD 2 2 5) _ c.if-n-lt2048.true (answered_at _ (I ADDI 2 2) c.addi.ensures (back_small n (omega arith)))

pub returns : goal.returns
unfolding add_stack_code
returns c =
    let n = c.args.n in
    c.push.ensures
    ∙ ap (λ p. pushed p c.add.result) c.li_unsigned.ensures
    ∙ size_through n (I ADDI 2 2 (pos n)) (pos n) (R ADD 2 2 5) _ c.if-n-lt2048.false c.add.ensures
