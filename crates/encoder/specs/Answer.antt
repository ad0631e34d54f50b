-- What the encoder answers for an instruction, by document 01:
-- number 1 if a register is above 31, else number 2 if a value is outside its field, else the word.
use Rattle.std.specs.Prelude.{◌≡◌, cond, ℕ, T, Result}
use Rattle.isa.specs.Instr.{Instr, operands, registers_hold, valid}
use Rattle.isa.specs.Encode.{encode}
use Rattle.refusal.specs.Answer.{Answer, accepted, refused, answer_of_result}
use Rattle.refusal.specs.Number.{number_of}
use Rattle.refusal.specs.declared.Refusal.TheVariants.{Register, Value}
use Rattle.refusal.specs.declared.Refused.{Refused}

-- the encoder's answers, a word or its refusal
abbrev pub Encoded : Type 0
Encoded = Result ℕ Refused

-- an answer's word, or its number and place
abbrev pub word_answer : Encoded → Answer ℕ
word_answer e = answer_of_result e

unfoldable pub encoded : Instr → Answer ℕ
encoded i =
    cond (registers_hold (operands i))
    (cond (valid i) (accepted (encode i)) (refused (number_of Value) 0))
    (refused (number_of Register) 0)

-- Accepted is exactly valid: what is accepted is valid, with its encoding as the word, and what is valid is accepted.
abbrev pub AcceptedValid : Type 0
AcceptedValid =
    (i : Instr)
    → ((w : ℕ) → encoded i ≡ accepted w → T (valid i) × (w ≡ encode i)) × (T (valid i) → encoded i ≡ accepted (encode i))
