-- The base instructions of RV64I, F and D that macros.rs can write, and `addiw` (document 02, point 6); which operands each takes.
use Rattle.std.specs.Prelude.{Bool, true, false, ◌&&◌, ◌||◌, List, [], ◌∷◌, ℕ, ◌-◌, ◌%◌, ◌^◌, eqb, ltb, leb, ℤ, pos, negsuc}
use Rattle.std.specs.Int.Signed.{mag}
use Rattle.base.specs.Tests.{all}
use Rattle.isa.specs.Immediate.{twos}

-- ---- operations, by the shape of their operands

-- rd, rs1, rs2
pub data ROp : Type 0 where
  ADD SUB SLL XOR SRL SRA OR AND FSGNJ_D FSGNJN_D FSGNJX_D FMIN_D FMAX_D FLE_D FLT_D FEQ_D : ROp

-- rd, rs1, rs2 and a rounding field
pub data FOp : Type 0 where
  FADD_D FSUB_D FMUL_D FDIV_D : FOp

-- rd, rs1 and a rounding field
pub data COp : Type 0 where
  FSQRT_D FCVT_W_D FCVT_L_D FCVT_D_W FCVT_D_L : COp

-- rd, rs1: bits moved between the two kinds of register
pub data MOp : Type 0 where
  FMV_X_D FMV_D_X : MOp

-- rd, rs1, rs2, rs3 and a rounding field
pub data R4Op : Type 0 where
  FMADD_D FMSUB_D FNMSUB_D FNMADD_D : R4Op

-- rd, rs1, immediate
pub data IOp : Type 0 where
  ADDI XORI ORI ANDI JALR LD FLD ADDIW : IOp

-- rd, rs1, shift count
pub data ShiftOp : Type 0 where
  SLLI SRLI SRAI : ShiftOp

-- rs1 (the base), rs2 (what is stored), immediate
pub data SOp : Type 0 where
  SD FSD : SOp

-- rs1, rs2, offset
pub data BOp : Type 0 where
  BEQ BNE BLT BGE BLTU BGEU : BOp

-- rd, upper immediate
pub data UOp : Type 0 where
  LUI AUIPC : UOp

-- rd, offset
pub data JOp : Type 0 where
  JAL : JOp

-- An instruction: registers and rounding fields are numbers, immediates whole numbers with a sign.
pub data Instr : Type 0 where
  R : ROp → (rd rs1 rs2 : ℕ) → Instr
  F : FOp → (rd rs1 rs2 rm : ℕ) → Instr
  C : COp → (rd rs1 rm : ℕ) → Instr
  M : MOp → (rd rs1 : ℕ) → Instr
  R4 : R4Op → (rd rs1 rs2 rs3 rm : ℕ) → Instr
  I : IOp → (rd rs1 : ℕ) → (imm : ℤ) → Instr
  Shift : ShiftOp → (rd rs1 : ℕ) → (shamt : ℤ) → Instr
  S : SOp → (rs1 rs2 : ℕ) → (imm : ℤ) → Instr
  B : BOp → (rs1 rs2 : ℕ) → (offset : ℤ) → Instr
  U : UOp → (rd : ℕ) → (imm : ℤ) → Instr
  J : JOp → (rd : ℕ) → (offset : ℤ) → Instr

-- ---- operands, by the field that holds each (document 01, macros.rs: "Fields")

-- What a rounding field takes.
pub data Rounding : Type 0 where
  free : Rounding  -- 0..4 and 7, where `rvv!` has a place for it
  fixed : ℕ → Rounding  -- this alone, where macros.rs fixes it

pub data Operand : Type 0 where
  register : ℕ → Operand  -- 0..31
  signed : (w : ℕ) → ℤ → Operand  -- w bits with a sign
  offset : (w : ℕ) → ℤ → Operand  -- w bits with a sign, even
  unsigned : (w : ℕ) → ℤ → Operand  -- w bits
  rounding : Rounding → ℕ → Operand

-- The field holds the operand. `mag z` is n both for n and for -1 - n, so a signed field of w bits holds -2^(w-1)..2^(w-1)-1.
abbrev pub holds : Operand → Bool
holds (register r) = ltb r 32
holds (signed w z) = ltb (mag z) (2 ^ (w - 1))
holds (offset w z) = ltb (mag z) (2 ^ (w - 1)) && eqb (twos w z % 2) 0
holds (unsigned w (pos n)) = ltb n (2 ^ w)
holds (unsigned w (negsuc n)) = false
holds (rounding free m) = leb m 4 || eqb m 7
holds (rounding (fixed n) m) = eqb m n

-- The rounding field: free in `fadd.d` and `fcvt.l.d`, 0 in `fcvt.d.w`, 7 in all others.
abbrev pub f_rounding : FOp → Rounding
f_rounding FADD_D = free
f_rounding FSUB_D = fixed 7
f_rounding FMUL_D = fixed 7
f_rounding FDIV_D = fixed 7

abbrev pub c_rounding : COp → Rounding
c_rounding FSQRT_D = fixed 7
c_rounding FCVT_W_D = fixed 7
c_rounding FCVT_L_D = free
c_rounding FCVT_D_W = fixed 0
c_rounding FCVT_D_L = fixed 7

abbrev pub operands : Instr → List Operand
operands (R k rd rs1 rs2) = register rd ∷ register rs1 ∷ register rs2 ∷ []
operands (F k rd rs1 rs2 rm) = register rd ∷ register rs1 ∷ register rs2 ∷ rounding (f_rounding k) rm ∷ []
operands (C k rd rs1 rm) = register rd ∷ register rs1 ∷ rounding (c_rounding k) rm ∷ []
operands (M k rd rs1) = register rd ∷ register rs1 ∷ []
operands (R4 k rd rs1 rs2 rs3 rm) = register rd ∷ register rs1 ∷ register rs2 ∷ register rs3 ∷ rounding (fixed 7) rm ∷ []
operands (I k rd rs1 imm) = register rd ∷ register rs1 ∷ signed 12 imm ∷ []
operands (Shift k rd rs1 shamt) = register rd ∷ register rs1 ∷ unsigned 6 shamt ∷ []
operands (S k rs1 rs2 imm) = register rs1 ∷ register rs2 ∷ signed 12 imm ∷ []
operands (B k rs1 rs2 z) = register rs1 ∷ register rs2 ∷ offset 13 z ∷ []
operands (U k rd imm) = register rd ∷ unsigned 20 imm ∷ []
operands (J k rd z) = register rd ∷ offset 21 z ∷ []

-- ---- validity: every operand is in its field

abbrev pub valid : Instr → Bool
valid i = all holds (operands i)

-- Every register operand is in its field.
abbrev pub registers_hold : List Operand → Bool
registers_hold [] = true
registers_hold (register r ∷ os) = ltb r 32 && registers_hold os
registers_hold (signed w z ∷ os) = registers_hold os
registers_hold (offset w z ∷ os) = registers_hold os
registers_hold (unsigned w z ∷ os) = registers_hold os
registers_hold (rounding k m ∷ os) = registers_hold os
