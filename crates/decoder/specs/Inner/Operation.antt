-- How the code finds a word's operation: a table over its fixed fields. That it finds every instruction's is proved; what it finds is
-- checked by the encoder, so entries for words that are no instruction's don't matter.
use Rattle.std.specs.Prelude.{cond, List, [], ◌∷◌, ℕ, ◌+◌, ◌/◌, ◌%◌, eqb, pos, get_or}
use Rattle.isa.specs.Immediate.{signed}
use Rattle.isa.specs.Instr.{Instr, R, F, C, M, R4, I, Shift, S, B, U, J, ADD, FADD_D, FSQRT_D, FMV_X_D, FMADD_D, ADDI, SLLI, SD, BEQ, LUI, JAL}
use Rattle.isa.specs.Encode.{Fields}
use Rattle.isa.specs.Decode.{r_ops, f_ops, c_ops, m_ops, r4_ops, i_ops, shift_ops, s_ops, b_ops, u_ops, i_imm, shamt, s_imm, b_imm, u_imm, j_imm}

abbrev pub place_of : (opcode funct3 funct7 : ℕ) → ℕ
place_of o t s =
    cond (eqb o 0b0110011) (32 + t)
    (cond (eqb o 0b0010011) (40 + t) (cond (eqb o 0b1100011) (48 + t) (cond (eqb o 0b1010011) (56 + s / 4) (o / 4))))

-- as the code has it
abbrev pub operations : List ℕ
operations =
    0x055 ∷ 0x056 ∷ 0x000 ∷ 0x000 ∷ 0x000 ∷ 0x091 ∷ 0x057 ∷ 0x000 ∷
    0x070 ∷ 0x071 ∷ 0x000 ∷ 0x000 ∷ 0x000 ∷ 0x090 ∷ 0x000 ∷ 0x000 ∷
    0x040 ∷ 0x041 ∷ 0x042 ∷ 0x043 ∷ 0x000 ∷ 0x000 ∷ 0x000 ∷ 0x000 ∷
    0x000 ∷ 0x054 ∷ 0x000 ∷ 0x0a0 ∷ 0x000 ∷ 0x000 ∷ 0x000 ∷ 0x000 ∷
    0x200 ∷ 0x002 ∷ 0x000 ∷ 0x000 ∷ 0x003 ∷ 0x204 ∷ 0x006 ∷ 0x007 ∷
    0x050 ∷ 0x060 ∷ 0x000 ∷ 0x000 ∷ 0x051 ∷ 0x261 ∷ 0x052 ∷ 0x053 ∷
    0x080 ∷ 0x081 ∷ 0x000 ∷ 0x000 ∷ 0x082 ∷ 0x083 ∷ 0x084 ∷ 0x085 ∷
    0x010 ∷ 0x011 ∷ 0x012 ∷ 0x013 ∷ 0x108 ∷ 0x10b ∷ 0x000 ∷ 0x000 ∷
    0x000 ∷ 0x000 ∷ 0x000 ∷ 0x020 ∷ 0x000 ∷ 0x000 ∷ 0x000 ∷ 0x000 ∷
    0x000 ∷ 0x000 ∷ 0x000 ∷ 0x000 ∷ 0x10d ∷ 0x000 ∷ 0x000 ∷ 0x000 ∷
    0x321 ∷ 0x000 ∷ 0x323 ∷ 0x000 ∷ 0x030 ∷ 0x000 ∷ 0x031 ∷ 0x000 ∷ []

abbrev pub operation_at : (entry funct3 rs2 funct7 : ℕ) → ℕ
operation_at e t b s = e % 256 + get_or (0 ∷ t ∷ s / 32 % 2 ∷ b / 2 ∷ []) (e / 256 % 4) 0

abbrev pub operation_of : Fields → ℕ
operation_of G =
    operation_at (get_or operations (place_of G.opcode G.funct3 G.funct7) 0) G.funct3 G.rs2 G.funct7

-- by its shape, n / 16, and its number there, k
abbrev pub by_shape : (shape k : ℕ) → Fields → Instr
by_shape n k G =
    get_or (
    R (get_or r_ops k ADD) G.rd G.rs1 G.rs2
    ∷ F (get_or f_ops (k % 4) FADD_D) G.rd G.rs1 G.rs2 G.funct3
    ∷ C (get_or c_ops (k % 5) FSQRT_D) G.rd G.rs1 G.funct3
    ∷ M (get_or m_ops (k % 2) FMV_X_D) G.rd G.rs1
    ∷ R4 (get_or r4_ops (k % 4) FMADD_D) G.rd G.rs1 G.rs2 (G.funct7 / 4) G.funct3
    ∷ I (get_or i_ops (k % 8) ADDI) G.rd G.rs1 (signed 12 (i_imm G))
    ∷ Shift (get_or shift_ops (k % 3) SLLI) G.rd G.rs1 (pos (shamt G))
    ∷ S (get_or s_ops (k % 2) SD) G.rs1 G.rs2 (signed 12 (s_imm G))
    ∷ B (get_or b_ops (k % 6) BEQ) G.rs1 G.rs2 (signed 13 (b_imm G))
    ∷ U (get_or u_ops (k % 2) LUI) G.rd (pos (u_imm G))
    ∷ []
    )
    n (J JAL G.rd (signed 21 (j_imm G)))

abbrev pub candidate_of : (operation : ℕ) → Fields → Instr
candidate_of n G = by_shape (n / 16) (n % 16) G
