use lib.IntN.{ℤ}
use Rattle.encoder.proofs.Signs.{handed}
use Rattle.accesses.specs.Plans.{plan_of}
use Rattle.accesses.proofs.Placed.{settled_as}
use native.Mathlib.Omega.{arith}
use Rattle.accesses.specs.Code.{li_code}
use Rattle.accesses.proofs.LoadImmediate.{li_valid, li_accepted}
use Rattle.accesses.proofs.Lengths.{li_length}
use Rattle.accesses.proofs.li.Goals as goal

pub returns-clause-whole : goal.returns-clause-whole
returns-clause-whole c =
    let a = c.args in
    let h = c.ranges.z in
    settled_as _ _ _ _ c.settle.ensures.whole (li_code a.d a.z) _
    c.li_refusal-f.ensures
    (λ e. (
      handed (λ (z : ℤ). plan_of (li_code a.d z)) a.z h c.li_plan.ensures,
      li_valid a.d a.z (li_accepted a.d e),
      omega (arith, li_length a.d a.z),
    ))
