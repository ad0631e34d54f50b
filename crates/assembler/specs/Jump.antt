-- The six kinds of jump (document 01, "What changes shape"): their numbers in jump memory, and the instruction that finishing writes.
use Rattle.std.specs.Prelude.{[], ◌∷◌, ℕ, ◌+◌, ℤ, pos, get_or, cond, ltb, Result, Ok, Err}
use Rattle.refusal.specs.declared.Refusal.{Refusal}
use Rattle.refusal.specs.declared.Refusal.TheVariants.{Value}
use Rattle.isa.specs.Register.{zero, t0, t2, s2}
use Rattle.isa.specs.Immediate.{twos, hi, lo}
use Rattle.isa.specs.Instr.{Instr, I, B, U, LD, JALR, FLD, BEQ, BNE, AUIPC}
use Rattle.assembler.specs.declared.JumpKind.{JumpKind}
use Rattle.assembler.specs.declared.JumpKind.TheVariants.{Auipc, Ld, Jalr, Fld, Beq, Bne}

abbrev pub kind_number : JumpKind → ℕ
kind_number Auipc = 0
kind_number Ld = 1
kind_number Jalr = 2
kind_number Fld = 3
kind_number Beq = 4
kind_number Bne = 5

-- The instruction of a jump: r is its register, z the offset from its word to its label's place, in bytes.
-- The second word of a pair takes its low part from its own offset plus 4.
abbrev pub jump_instr : JumpKind → ℕ → ℤ → Instr
jump_instr Auipc r z = U AUIPC t0 (pos (hi (twos 32 z)))
jump_instr Ld r z = I LD r t0 (lo (twos 32 z + 4))
jump_instr Jalr r z = I JALR r t0 (lo (twos 32 z + 4))
jump_instr Fld r z = I FLD r t0 (lo (twos 32 z + 4))
jump_instr Beq r z = B BEQ s2 zero z
jump_instr Bne r z = B BNE t2 zero z

-- the kind with a number below 6
abbrev pub kind_of : ℕ → JumpKind
kind_of n = get_or (Auipc ∷ Ld ∷ Jalr ∷ Fld ∷ Beq ∷ Bne ∷ []) n Bne

-- a number of jump memory as a kind, if it is one's
abbrev pub kind_said : ℕ → Result JumpKind Refusal
kind_said n = cond (ltb n 6) (Ok (kind_of n)) (Err Value)
