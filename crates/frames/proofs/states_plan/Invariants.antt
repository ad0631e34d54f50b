use mathlib.Core.Path.{◌≡◌}
use mathlib.Core.List.{◌∷◌, map}
use Prim.Native.Nat.{◌-◌}
use Rattle.accesses.specs.Plans.{answer_of, pushes_from, plan_of}
use Rattle.frame_code.specs.Items.{mv, states_from}
use Rattle.frames.proofs.states_plan.Given as goal

abbrev pub invariant-loop-i : goal.invariant-loop-i
invariant-loop-i l = plan_of (mv 21 2 ∷ states_from 0 l.states) ≡ pushes_from l.p (map answer_of (states_from l.i (l.states - l.i)))
