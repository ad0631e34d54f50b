-- Encodings, from the RISC-V Unprivileged ISA Manual: the instruction formats and the opcode tables of RV64I, F and D.
use Rattle.std.specs.Prelude.{ℕ, ◌+◌, ◌*◌, ◌/◌, ◌%◌, ◌^◌}
use Rattle.isa.specs.Immediate.{twos}
use Rattle.isa.specs.Instr.{Instr, R, F, C, M, R4, I, Shift, S, B, U, J, ROp, ADD, SUB, SLL, XOR, SRL, SRA, OR, AND, FSGNJ_D, FSGNJN_D, FSGNJX_D, FMIN_D, FMAX_D, FLE_D, FLT_D, FEQ_D, FOp, FADD_D, FSUB_D, FMUL_D, FDIV_D, COp, FSQRT_D, FCVT_W_D, FCVT_L_D, FCVT_D_W, FCVT_D_L, MOp, FMV_X_D, FMV_D_X, R4Op, FMADD_D, FMSUB_D, FNMSUB_D, FNMADD_D, IOp, ADDI, XORI, ORI, ANDI, JALR, LD, FLD, ADDIW, ShiftOp, SLLI, SRLI, SRAI, SOp, SD, FSD, BOp, BEQ, BNE, BLT, BGE, BLTU, BGEU, UOp, LUI, AUIPC, JOp, JAL}

-- ---- the six fields of the R format, over which every other format is laid

pub record Fields : Type 0 where
  pub opcode : ℕ  -- bits 6..0
  pub rd : ℕ  -- bits 11..7
  pub funct3 : ℕ  -- bits 14..12
  pub rs1 : ℕ  -- bits 19..15
  pub rs2 : ℕ  -- bits 24..20
  pub funct7 : ℕ  -- bits 31..25

-- a word's fields from bit 0 up
abbrev pub layout : (opcode rd funct3 rs1 rs2 funct7 : ℕ) → Fields
layout o d t a b s = record { opcode = o; rd = d; funct3 = t; rs1 = a; rs2 = b; funct7 = s }

unfoldable pub join : Fields → ℕ
join G =
    G.opcode + G.rd * 2 ^ 7 + G.funct3 * 2 ^ 12 + G.rs1 * 2 ^ 15 + G.rs2 * 2 ^ 20 + G.funct7 * 2 ^ 25

-- ---- the fixed fields of each operation

-- opcode, funct3, funct7
abbrev pub r_key : ROp → ℕ × ℕ × ℕ
r_key ADD = (0b0110011, 0b000, 0b0000000)
r_key SUB = (0b0110011, 0b000, 0b0100000)
r_key SLL = (0b0110011, 0b001, 0b0000000)
r_key XOR = (0b0110011, 0b100, 0b0000000)
r_key SRL = (0b0110011, 0b101, 0b0000000)
r_key SRA = (0b0110011, 0b101, 0b0100000)
r_key OR = (0b0110011, 0b110, 0b0000000)
r_key AND = (0b0110011, 0b111, 0b0000000)
r_key FSGNJ_D = (0b1010011, 0b000, 0b0010001)
r_key FSGNJN_D = (0b1010011, 0b001, 0b0010001)
r_key FSGNJX_D = (0b1010011, 0b010, 0b0010001)
r_key FMIN_D = (0b1010011, 0b000, 0b0010101)
r_key FMAX_D = (0b1010011, 0b001, 0b0010101)
r_key FLE_D = (0b1010011, 0b000, 0b1010001)
r_key FLT_D = (0b1010011, 0b001, 0b1010001)
r_key FEQ_D = (0b1010011, 0b010, 0b1010001)

-- funct7; the opcode is OP-FP, 0b1010011, and funct3 the rounding field
abbrev pub f_key : FOp → ℕ
f_key FADD_D = 0b0000001
f_key FSUB_D = 0b0000101
f_key FMUL_D = 0b0001001
f_key FDIV_D = 0b0001101

-- funct7 and rs2; opcode and funct3 as above
abbrev pub c_key : COp → ℕ × ℕ
c_key FSQRT_D = (0b0101101, 0b00000)
c_key FCVT_W_D = (0b1100001, 0b00000)
c_key FCVT_L_D = (0b1100001, 0b00010)
c_key FCVT_D_W = (0b1101001, 0b00000)
c_key FCVT_D_L = (0b1101001, 0b00010)

-- funct7; the opcode is OP-FP, funct3 and rs2 are 0
abbrev pub m_key : MOp → ℕ
m_key FMV_X_D = 0b1110001
m_key FMV_D_X = 0b1111001

-- opcode; the format field, bits 26..25, is 0b01
abbrev pub r4_key : R4Op → ℕ
r4_key FMADD_D = 0b1000011
r4_key FMSUB_D = 0b1000111
r4_key FNMSUB_D = 0b1001011
r4_key FNMADD_D = 0b1001111

-- opcode, funct3
abbrev pub i_key : IOp → ℕ × ℕ
i_key ADDI = (0b0010011, 0b000)
i_key XORI = (0b0010011, 0b100)
i_key ORI = (0b0010011, 0b110)
i_key ANDI = (0b0010011, 0b111)
i_key JALR = (0b1100111, 0b000)
i_key LD = (0b0000011, 0b011)
i_key FLD = (0b0000111, 0b011)
i_key ADDIW = (0b0011011, 0b000)

-- funct3, bits 31..26; the opcode is OP-IMM, 0b0010011
abbrev pub shift_key : ShiftOp → ℕ × ℕ
shift_key SLLI = (0b001, 0b000000)
shift_key SRLI = (0b101, 0b000000)
shift_key SRAI = (0b101, 0b010000)

-- opcode; funct3 is 0b011, a doubleword
abbrev pub s_key : SOp → ℕ
s_key SD = 0b0100011
s_key FSD = 0b0100111

-- funct3; the opcode is BRANCH, 0b1100011
abbrev pub b_key : BOp → ℕ
b_key BEQ = 0b000
b_key BNE = 0b001
b_key BLT = 0b100
b_key BGE = 0b101
b_key BLTU = 0b110
b_key BGEU = 0b111

-- opcode
abbrev pub u_key : UOp → ℕ
u_key LUI = 0b0110111
u_key AUIPC = 0b0010111

abbrev pub j_key : JOp → ℕ
j_key JAL = 0b1101111

-- ---- formats: where the bits of an immediate n go

abbrev pub i_fields : ℕ × ℕ → ℕ → ℕ → ℕ → Fields
i_fields k rd rs1 n = layout k.0 rd k.1 rs1 (n % 2 ^ 5) (n / 2 ^ 5)

-- imm[4:0] in rd's place, imm[11:5] in funct7's
abbrev pub s_fields : ℕ → ℕ → ℕ → ℕ → Fields
s_fields k rs1 rs2 n = layout k (n % 2 ^ 5) 0b011 rs1 rs2 (n / 2 ^ 5)

-- imm[4:1] and imm[11] in rd's place, imm[12] and imm[10:5] in funct7's
abbrev pub b_fields : ℕ → ℕ → ℕ → ℕ → Fields
b_fields k rs1 rs2 n =
    layout 0b1100011 (n / 2 % 2 ^ 4 * 2 + n / 2 ^ 11 % 2) k rs1 rs2 (n / 2 ^ 12 * 2 ^ 6 + n / 2 ^ 5 % 2 ^ 6)

-- the 20 bits from bit 12 up
abbrev pub u_fields : ℕ → ℕ → ℕ → Fields
u_fields k rd n = layout k rd (n % 2 ^ 3) (n / 2 ^ 3 % 2 ^ 5) (n / 2 ^ 8 % 2 ^ 5) (n / 2 ^ 13)

-- imm[20|10:1|11|19:12] from bit 31 down to bit 12
abbrev pub j_fields : ℕ → ℕ → ℕ → Fields
j_fields k rd n =
    layout k rd (n / 2 ^ 12 % 2 ^ 3) (n / 2 ^ 15 % 2 ^ 5) (n / 2 % 2 ^ 4 * 2 + n / 2 ^ 11 % 2)
    (n / 2 ^ 20 * 2 ^ 6 + n / 2 ^ 5 % 2 ^ 6)

unfoldable pub fields : Instr → Fields
fields (R k rd rs1 rs2) = layout (r_key k).0 rd (r_key k).1 rs1 rs2 (r_key k).2
fields (F k rd rs1 rs2 rm) = layout 0b1010011 rd rm rs1 rs2 (f_key k)
fields (C k rd rs1 rm) = layout 0b1010011 rd rm rs1 (c_key k).1 (c_key k).0
fields (M k rd rs1) = layout 0b1010011 rd 0 rs1 0 (m_key k)
fields (R4 k rd rs1 rs2 rs3 rm) = layout (r4_key k) rd rm rs1 rs2 (rs3 * 2 ^ 2 + 0b01)
fields (I k rd rs1 imm) = i_fields (i_key k) rd rs1 (twos 12 imm)
fields (Shift k rd rs1 shamt) =
    i_fields (0b0010011, (shift_key k).0) rd rs1 ((shift_key k).1 * 2 ^ 6 + twos 6 shamt)
fields (S k rs1 rs2 imm) = s_fields (s_key k) rs1 rs2 (twos 12 imm)
fields (B k rs1 rs2 z) = b_fields (b_key k) rs1 rs2 (twos 13 z)
fields (U k rd imm) = u_fields (u_key k) rd (twos 20 imm)
fields (J k rd z) = j_fields (j_key k) rd (twos 21 z)

-- The word of an instruction.
unfoldable pub encode : Instr → ℕ
encode i = join (fields i)
