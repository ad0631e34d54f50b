-- What document 01 lets a function answer: a value, or a refusal's number and place.
use Rattle.std.specs.Prelude.{ℕ, Result, Ok, Err}
use Rattle.refusal.specs.Number.{number_of}
use Rattle.refusal.specs.declared.Refused.{Refused}

pub data Answer (A : Type 0) : Type 0 where
  accepted : A → Answer A
  refused : (number place : ℕ) → Answer A

-- what a result says
abbrev pub answer_of_result : {A : Type 0} → Result A Refused → Answer A
answer_of_result (Ok x) = accepted x
answer_of_result (Err e) = refused (number_of e.why) e.place
