use mathlib.Core.Path.{◌≡◌}
use mathlib.Core.List.{[], ◌∷◌, ◌++◌, map}
use lib.ListN.{drop}
use lib.IntN.{pos}
use Rattle.isa.specs.Instr.{R, I, XOR, JALR}
use Rattle.accesses.specs.Code.{add_stack_code}
use Rattle.accesses.specs.Plans.{answer_of, pushes_from}
use Rattle.reading.specs.Size.{save_size}
use Rattle.frame_code.specs.Items.{closing, loads_from}
use Rattle.frames.proofs.closing_plan.Given as goal

abbrev pub invariant-loop-i : goal.invariant-loop-i
invariant-loop-i l =
    pushes_from l.fn.p (map answer_of (closing l.frame))
    ≡ pushes_from l.q (map answer_of (loads_from l.i (drop l.i l.r-items) ++ (add_stack_code (save_size l.frame) ++ (R XOR 10 10 10 ∷ I JALR 0 1 (pos 0) ∷ []))))
