use mathlib.Core.Path.{◌≡◌}
use lib.ListN.{drop}
use Rattle.accesses.specs.Plans.{pushes, pushes_from}
use Rattle.accesses.proofs.plan.Given as goal

abbrev pub invariant-loop-e : goal.invariant-loop-e
invariant-loop-e g l = pushes l.e-items ≡ pushes_from l.p (drop l.e-index l.e-items)
