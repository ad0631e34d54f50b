-- When the encoder's answer is the expected one.
use Rattle.std.specs.Prelude.{Bool, false, ◌&&◌, ℕ, eqb, Result, Ok, Err}
use Rattle.encoder.specs.Answer.{Encoded}
use Rattle.refusal.specs.Number.{number_of}

-- the same word, or the same refusal at place 0
abbrev pub agreed : (expected : Result ℕ ℕ) → Encoded → Bool
agreed (Ok n) (Ok w) = eqb w n
agreed (Ok n) (Err e) = false
agreed (Err n) (Ok w) = false
agreed (Err n) (Err e) = eqb e.place 0 && eqb (number_of e.why) n
