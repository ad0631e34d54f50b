-- Document 01's number and values for each case of the routine's answer.
use Rattle.std.specs.Prelude.{List, ℕ, Result, Ok, Err}
use Rattle.refusal.specs.Answer.{Answer, accepted, refused}
use Rattle.refusal.specs.Number.{number_of}
use Rattle.assembler.specs.State.{state, Lent}
use Rattle.routine.specs.Routine.{Summary}
use Rattle.routine.specs.Run.{RunOutcome}
use Rattle.refusal.specs.declared.Refused.{Refused}
use Rattle.routine.specs.declared.Outline.{Outline}
use Rattle.routine.specs.declared.RoutineResult.{RoutineResult}

abbrev pub routine_answer : Result Outline Refused → Answer Summary
routine_answer (Ok t) = accepted (record { length = t.length; offset = t.offset; constants = t.constants; jumps = t.jumps; frame = t.frame })
routine_answer (Err e) = refused (number_of e.why) e.place

abbrev pub run_outcome : RoutineResult → (labels jumps buf : List ℕ) → RunOutcome
run_outcome r ls js b = record { answer = routine_answer r.answer; state = state r.asm ls js b }

-- what the routine answers and leaves in lent memory
abbrev pub run_after : RoutineResult → (labels jumps buf : Lent) → RunOutcome
run_after r labels jumps buf = run_outcome r labels.exit.now jumps.exit.now buf.exit.now
