use mathlib.Core.Path.{◌∙◌}
use Rattle.accesses.specs.Plans.{access_instr}
use Rattle.accesses.proofs.Planned.{one_direct, one_through}
use Rattle.accesses.proofs.one_plan.Goals as goal

pub returns-then-n-lt2048 : goal.returns-then-n-lt2048
returns-then-n-lt2048 c =
    let a = c.args in
    c.one.ensures ∙ one_direct (λ b z. access_instr a.k a.r b z) a.base a.n _ c.if-n-lt2048.true c.access_at.ensures

pub returns : goal.returns
returns c =
    let a = c.args in
    c.far.ensures ∙ one_through (λ b z. access_instr a.k a.r b z) a.base a.n _ c.if-n-lt2048.false c.access_at-2.ensures
