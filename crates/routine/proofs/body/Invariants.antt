use Rattle.std.proofs.Common.{◌≡◌, [], ◌+◌, ◌-◌, ◌≤◌, length, take, drop}
use Rattle.text.specs.Lines.{lines_of}
use Rattle.assembler.specs.State.{SameLent, before}
use Rattle.routine.specs.Inner.Places.{constants_at}
use Rattle.routine.specs.Run.{lines_run}
use Rattle.routine.proofs.body.Given as goal

abbrev pub invariant-loop-at : goal.invariant-loop-at
invariant-loop-at l =
    (l.at ≤ length l.file) × (l.n ≤ l.at + 1) × (l.k ≤ 1008) × (length l.places ≡ 1008) × SameLent l.initial.asm l.asm
    × (lines_run l.head 1 [] (lines_of (drop l.initial.at l.file)) (before l.initial.asm)
    ≡ lines_run l.head l.n (constants_at l.file (take l.k l.places)) (lines_of (drop l.at l.file)) (before l.asm))

abbrev pub decreases-loop-at : goal.decreases-loop-at
decreases-loop-at l = length l.file - l.at
