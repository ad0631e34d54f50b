use mathlib.Core.Path.{ap, ◌∙◌}
use mathlib.Core.List.{[], ◌∷◌}
use lib.IntN.{ℤ, pos}
use Rattle.isa.specs.Instr.{R, ADD}
use Rattle.assembler.specs.Plan.{pushed}
use Rattle.assembler.specs.declared.Plan.{Plan}
use Rattle.accesses.specs.Code.{li_code}
use Rattle.accesses.proofs.Collect.{answered, collected, pushed_last}
use Rattle.accesses.proofs.Numbers.{back_small}
use Rattle.frame_code.specs.Items.{mv}
use native.Mathlib.Omega.{arith}
use Prim.Native.Nat.{◌*◌}
use Rattle.accesses.specs.Plans.{plan_of}
use Rattle.frames.proofs.first_plan.Goals as goal

pub returns-in-In : goal.returns-in-In
returns-in-In c = rw c.in-In.is (c.plan.ensures ∙ collected (c.mv.result ∷ []) (mv 6 9 ∷ []) (answered _ _ c.mv.ensures, tt))

pub returns-in-Out : goal.returns-in-Out
returns-in-Out c =
    let n = 8 * c.args.states in
    rw c.in-Out.is
    (c.push.ensures
    ∙ ap (λ (p : Plan). pushed p c.add.result) (c.li_plan.ensures ∙ ap (λ (z : ℤ). plan_of (li_code 6 z)) (back_small n (omega arith)))
    ∙ pushed_last (li_code 6 (pos n)) (R ADD 6 6 9) (answered _ _ c.add.ensures))
