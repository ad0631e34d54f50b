use mathlib.Core.Path.{◌≡◌}
use mathlib.Core.List.{[], ◌∷◌, ◌++◌, map}
use lib.ListN.{drop}
use Rattle.accesses.specs.Plans.{answer_of, pushes_from, plan_of}
use Rattle.frame_code.specs.Items.{mv, opening, stores_from}
use Rattle.frames.proofs.opening_plan.Given as goal

abbrev pub invariant-loop-i : goal.invariant-loop-i
invariant-loop-i l = plan_of (opening l.fn.frame) ≡ pushes_from l.p (map answer_of (stores_from l.i (drop l.i l.r-items) ++ (mv 8 2 ∷ [])))
