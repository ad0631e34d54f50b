-- Decoding: the instruction that a word is. A word is an instruction exactly when it is a valid instruction's encoding (`Laws`).
use Rattle.std.specs.Prelude.{Bool, ◌&&◌, cond, List, [], ◌∷◌, ℕ, ◌+◌, ◌*◌, ◌/◌, ◌%◌, ◌^◌, eqb, pos}
use Rattle.std.proofs.Math.Option.{Option, some, none, map}
use Rattle.isa.specs.Immediate.{signed}
use Rattle.isa.specs.Instr.{valid, Instr, R, F, C, M, R4, I, Shift, S, B, U, J, ROp, ADD, SUB, SLL, XOR, SRL, SRA, OR, AND, FSGNJ_D, FSGNJN_D, FSGNJX_D, FMIN_D, FMAX_D, FLE_D, FLT_D, FEQ_D, FOp, FADD_D, FSUB_D, FMUL_D, FDIV_D, COp, FSQRT_D, FCVT_W_D, FCVT_L_D, FCVT_D_W, FCVT_D_L, MOp, FMV_X_D, FMV_D_X, R4Op, FMADD_D, FMSUB_D, FNMSUB_D, FNMADD_D, IOp, ADDI, XORI, ORI, ANDI, JALR, LD, FLD, ADDIW, ShiftOp, SLLI, SRLI, SRAI, SOp, SD, FSD, BOp, BEQ, BNE, BLT, BGE, BLTU, BGEU, UOp, LUI, AUIPC, JOp, JAL}
use Rattle.isa.specs.Encode.{Fields, encode, r_key, f_key, c_key, m_key, r4_key, i_key, shift_key, s_key, b_key, u_key, j_key}

abbrev pub r_ops : List ROp
r_ops =
    ADD ∷ SUB ∷ SLL ∷ XOR ∷ SRL ∷ SRA ∷ OR ∷ AND ∷ FSGNJ_D ∷ FSGNJN_D ∷ FSGNJX_D ∷ FMIN_D ∷ FMAX_D ∷ FLE_D ∷ FLT_D ∷ FEQ_D ∷ []

abbrev pub f_ops : List FOp
f_ops = FADD_D ∷ FSUB_D ∷ FMUL_D ∷ FDIV_D ∷ []

abbrev pub c_ops : List COp
c_ops = FSQRT_D ∷ FCVT_W_D ∷ FCVT_L_D ∷ FCVT_D_W ∷ FCVT_D_L ∷ []

abbrev pub m_ops : List MOp
m_ops = FMV_X_D ∷ FMV_D_X ∷ []

abbrev pub r4_ops : List R4Op
r4_ops = FMADD_D ∷ FMSUB_D ∷ FNMSUB_D ∷ FNMADD_D ∷ []

abbrev pub i_ops : List IOp
i_ops = ADDI ∷ XORI ∷ ORI ∷ ANDI ∷ JALR ∷ LD ∷ FLD ∷ ADDIW ∷ []

abbrev pub shift_ops : List ShiftOp
shift_ops = SLLI ∷ SRLI ∷ SRAI ∷ []

abbrev pub s_ops : List SOp
s_ops = SD ∷ FSD ∷ []

abbrev pub b_ops : List BOp
b_ops = BEQ ∷ BNE ∷ BLT ∷ BGE ∷ BLTU ∷ BGEU ∷ []

abbrev pub u_ops : List UOp
u_ops = LUI ∷ AUIPC ∷ []

abbrev pub j_ops : List JOp
j_ops = JAL ∷ []

-- the first member that passes the test
module _ {K : Type 0} where
  abbrev pub first : (K → Bool) → List K → Option K
  first p [] = none
  first p (k ∷ ks) = cond (p k) (some k) (first p ks)

module _ {X : Type 0} where
  abbrev pub or_else : Option X → Option X → Option X
  or_else (some x) o = some x
  or_else none o = o

-- the six fields of a word
unfoldable pub cut : ℕ → Fields
cut w =
    record {
      opcode = w % 2 ^ 7;
      rd = w / 2 ^ 7 % 2 ^ 5;
      funct3 = w / 2 ^ 12 % 2 ^ 3;
      rs1 = w / 2 ^ 15 % 2 ^ 5;
      rs2 = w / 2 ^ 20 % 2 ^ 5;
      funct7 = w / 2 ^ 25;
    }

-- the bits of an immediate, put together again
abbrev pub i_imm : Fields → ℕ
i_imm G = G.funct7 * 2 ^ 5 + G.rs2

abbrev pub shamt : Fields → ℕ
shamt G = G.funct7 % 2 * 2 ^ 5 + G.rs2

abbrev pub s_imm : Fields → ℕ
s_imm G = G.funct7 * 2 ^ 5 + G.rd

abbrev pub b_imm : Fields → ℕ
b_imm G = G.funct7 / 2 ^ 6 * 2 ^ 12 + G.rd % 2 * 2 ^ 11 + G.funct7 % 2 ^ 6 * 2 ^ 5 + G.rd / 2 * 2

abbrev pub u_imm : Fields → ℕ
u_imm G = G.funct7 * 2 ^ 13 + G.rs2 * 2 ^ 8 + G.rs1 * 2 ^ 3 + G.funct3

abbrev pub j_imm : Fields → ℕ
j_imm G =
    G.funct7 / 2 ^ 6 * 2 ^ 20 + G.rs1 * 2 ^ 15 + G.funct3 * 2 ^ 12 + G.rs2 % 2 * 2 ^ 11 + G.funct7 % 2 ^ 6 * 2 ^ 5
    + G.rs2 / 2 * 2

-- The operation whose fixed fields these are, with the operands that the other fields hold.
unfoldable pub reading : Fields → Option Instr
reading G =
    or_else
    (map (λ k. R k G.rd G.rs1 G.rs2)
    (first (λ k. eqb (r_key k).0 G.opcode && (eqb (r_key k).2 G.funct7 && eqb (r_key k).1 G.funct3)) r_ops))
    (or_else
    (map (λ k. F k G.rd G.rs1 G.rs2 G.funct3)
    (first (λ k. eqb 0b1010011 G.opcode && eqb (f_key k) G.funct7) f_ops))
    (or_else
    (map (λ k. C k G.rd G.rs1 G.funct3)
    (first (λ k. eqb 0b1010011 G.opcode && (eqb (c_key k).0 G.funct7 && eqb (c_key k).1 G.rs2)) c_ops))
    (or_else
    (map (λ k. M k G.rd G.rs1)
    (first (λ k. eqb 0b1010011 G.opcode && eqb (m_key k) G.funct7) m_ops))
    (or_else
    (map (λ k. R4 k G.rd G.rs1 G.rs2 (G.funct7 / 2 ^ 2) G.funct3)
    (first (λ k. eqb (r4_key k) G.opcode) r4_ops))
    (or_else
    (map (λ k. I k G.rd G.rs1 (signed 12 (i_imm G)))
    (first (λ k. eqb (i_key k).0 G.opcode && eqb (i_key k).1 G.funct3) i_ops))
    (or_else
    (map (λ k. Shift k G.rd G.rs1 (pos (shamt G)))
    (first (λ k. eqb 0b0010011 G.opcode && (eqb (shift_key k).0 G.funct3 && eqb (shift_key k).1 (G.funct7 / 2))) shift_ops))
    (or_else
    (map (λ k. S k G.rs1 G.rs2 (signed 12 (s_imm G)))
    (first (λ k. eqb (s_key k) G.opcode) s_ops))
    (or_else
    (map (λ k. B k G.rs1 G.rs2 (signed 13 (b_imm G)))
    (first (λ k. eqb 0b1100011 G.opcode && eqb (b_key k) G.funct3) b_ops))
    (or_else
    (map (λ k. U k G.rd (pos (u_imm G))) (first (λ k. eqb (u_key k) G.opcode) u_ops))
    (map (λ k. J k G.rd (signed 21 (j_imm G))) (first (λ k. eqb (j_key k) G.opcode) j_ops)))))))))))

-- i, if it is valid and w is its encoding
abbrev pub checked : ℕ → Option Instr → Option Instr
checked w (some i) = cond (valid i && eqb (encode i) w) (some i) none
checked w none = none

-- The instruction that the word w is, or none.
unfoldable pub decode : ℕ → Option Instr
decode w = checked w (reading (cut w))
