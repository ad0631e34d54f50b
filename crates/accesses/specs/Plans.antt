-- How words are collected into a plan: what the encoder answers for each instruction, one after the other.
use Rattle.std.specs.Prelude.{cond, List, [], ◌∷◌, map, ℕ, ℤ, Ok, Err}
use Rattle.std.specs.Result.{result_unwrap_or}
use Rattle.isa.specs.Instr.{Instr, I, S, LD, FLD, FSD, operands, registers_hold, valid}
use Rattle.isa.specs.Encode.{encode}
use Rattle.refusal.specs.declared.Refusal.TheVariants.{Register, Value}
use Rattle.encoder.specs.Answer.{Encoded}
use Rattle.assembler.specs.Plan.{no_words, pushed}
use Rattle.assembler.specs.declared.Plan.{Plan}
use Rattle.accesses.specs.declared.Cell.{Cell}
use Rattle.accesses.specs.declared.Cell.TheVariants.{LoadFloat, SaveFloat, LoadInt}

-- the encoder's answer for an instruction
abbrev pub answer_of : Instr → Encoded
answer_of i = cond (registers_hold (operands i)) (cond (valid i) (Ok (encode i)) (Err (record { why = Value; place = 0 }))) (Err (record { why = Register; place = 0 }))

-- an answer's word, 0 where it is refused
abbrev pub word_of : Encoded → ℕ
word_of e = result_unwrap_or e 0

abbrev pub pushes_from : Plan → List Encoded → Plan
pushes_from p [] = p
pushes_from p (e ∷ es) = pushes_from (pushed p e) es

abbrev pub pushes : List Encoded → Plan
pushes es = pushes_from no_words es

-- the plan of a list of instructions
abbrev pub plan_of : List Instr → Plan
plan_of is = pushes (map answer_of is)

-- an access by what it does
abbrev pub access_instr : Cell → (r base : ℕ) → ℤ → Instr
access_instr LoadFloat r b z = I FLD r b z
access_instr SaveFloat r b z = S FSD b r z
access_instr LoadInt r b z = I LD r b z
