-- From answers to the numbers that a caller gets.
use mathlib.Core.Path.{◌≡◌, refl}
use Rattle.refusal.specs.Answer.{Answer, accepted, refused}
use Rattle.reading.specs.Program.{Program}
use Rattle.routine.specs.Routine.{summary_answer}
use Rattle.handheld.specs.Numbers.{number}

pub number_told : (a : Answer Program) → number (summary_answer a) ≡ number a
number_told (accepted p) = refl
number_told (refused n line) = refl
