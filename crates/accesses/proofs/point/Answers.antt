use mathlib.Core.Path.{◌∙◌, ap}
use lib.IntN.{pos}
use Rattle.accesses.proofs.Collect.{answered}
use Rattle.isa.specs.Instr.{R, ADD}
use Rattle.assembler.specs.Plan.{pushed}
use Rattle.accesses.specs.Code.{li_code, point_code}
use Rattle.accesses.proofs.Collect.{pushed_last}
use Rattle.accesses.proofs.point.Goals as goal

pub returns : goal.returns
unfolding point_code
returns c =
    let a = c.args in
    c.push.ensures
    ∙ ap (λ p. pushed p c.add.result) c.li_unsigned.ensures
    ∙ pushed_last (li_code 5 (pos a.n)) (R ADD 5 5 a.base) (answered _ _ c.add.ensures)
