use mathlib.Core.Path.{◌∙◌, ap}
use Rattle.assembler.specs.Plan.{pushed}
use Rattle.accesses.specs.Plans.{access_instr}
use Rattle.accesses.proofs.Planned.{pair_direct, pair_through}
use Rattle.accesses.proofs.pair_plan.Goals as goal

pub returns-then-n-lt2040 : goal.returns-then-n-lt2040
returns-then-n-lt2040 c =
    let a = c.args in
    c.two.ensures
    ∙ pair_direct (λ r b z. access_instr a.k r b z) a.r a.base a.n _ _ c.if-n-lt2040.true c.access_at.ensures c.access_at-then-n-lt2040.ensures

pub returns : goal.returns
returns c =
    let a = c.args in
    c.push.ensures
    ∙ ap (λ q. pushed q c.access_at-3.result) (c.push-p.ensures ∙ ap (λ q. pushed q c.access_at-2.result) c.point.ensures)
    ∙ pair_through (λ r b z. access_instr a.k r b z) a.r a.base a.n _ _ c.if-n-lt2040.false c.access_at-2.ensures c.access_at-3.ensures
