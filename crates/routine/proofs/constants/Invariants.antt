use Rattle.std.proofs.Common.{◌≡◌, ℕ, ◌≤◌, length, drop}
use Rattle.assembler.specs.State.{State, SameLent, before}
use Rattle.routine.specs.Inner.Places.{constants_at}
use Rattle.routine.specs.Run.{RunOutcome, constants_run}
use Rattle.routine.proofs.constants.Given as goal

abbrev pub invariant-loop-k : goal.invariant-loop-k
invariant-loop-k l =
    ((line : ℕ) (f : State → RunOutcome)
    → constants_run line 0 (constants_at l.file l.places) (before l.initial.asm) f ≡ constants_run line l.k (constants_at l.file (drop l.k l.places)) (before l.asm) f)
    × SameLent l.initial.asm l.asm
