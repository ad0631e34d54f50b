-- What the private helpers of the format functions answer: the bits of an immediate in its field, or a refusal.
use Rattle.std.specs.Prelude.{cond, List, ℕ, ◌+◌, ◌-◌, ◌*◌, ◌%◌, ltb, eqb}
use Rattle.isa.specs.Instr.{Operand, registers_hold}
use Rattle.refusal.specs.Answer.{Answer, accepted, refused}
use Rattle.encoder.specs.declared.Sign.{Sign}
use Rattle.encoder.specs.declared.Sign.TheVariants.{NonNeg, Neg}

-- a base word with operands in the six fields' places
abbrev pub packed : ℕ → ℕ → ℕ → ℕ → ℕ → ℕ → ℕ
packed base rd funct3 rs1 rs2 funct7 =
    base + rd * 128 + funct3 * 4096 + rs1 * 32768 + rs2 * 1048576 + funct7 * 33554432

abbrev pub register_answer : List Operand → Answer (Unit {0})
register_answer rs = cond (registers_hold rs) (accepted tt) (refused 1 0)

abbrev pub signed_field : ℕ → Sign → Answer ℕ
signed_field half (NonNeg n) = cond (ltb n half) (accepted n) (refused 2 0)
signed_field half (Neg n) = cond (ltb n half) (accepted (half + half - 1 - n)) (refused 2 0)

abbrev pub even_field : Answer ℕ → Answer ℕ
even_field (accepted n) = cond (eqb (n % 2) 0) (accepted n) (refused 2 0)
even_field (refused number place) = refused number place

abbrev pub unsigned_field : ℕ → Sign → Answer ℕ
unsigned_field limit (NonNeg n) = cond (ltb n limit) (accepted n) (refused 2 0)
unsigned_field limit (Neg n) = refused 2 0
