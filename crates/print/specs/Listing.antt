-- The text of a listing (document 02, points 5 and 10).
use Rattle.std.specs.Prelude.{Bool, true, false, not, ◌&&◌, cond, List, [], ◌∷◌, ◌++◌, ℕ, ◌+◌, ◌-◌, ◌/◌, eqb, ltb, leb, ℤ, pos, get_or}
use Rattle.std.specs.Prelude
use Rattle.std.specs.Prelude.{Some, None}
use Rattle.std.proofs.Math.Option.{Option, some, none}
use Prim.Native.String.{String}
use Rattle.isa.specs.Instr.{Instr, R, F, C, M, R4, I, Shift, S, B, U, J, ROp, ADD, SUB, SLL, XOR, SRL, SRA, OR, AND, FSGNJ_D, FSGNJN_D, FSGNJX_D, FMIN_D, FMAX_D, FLE_D, FLT_D, FEQ_D, FOp, FADD_D, FSUB_D, FMUL_D, FDIV_D, COp, FSQRT_D, FCVT_W_D, FCVT_L_D, FCVT_D_W, FCVT_D_L, MOp, FMV_X_D, FMV_D_X, R4Op, FMADD_D, FMSUB_D, FNMSUB_D, FNMADD_D, IOp, ADDI, XORI, ORI, ANDI, JALR, LD, FLD, ADDIW, ShiftOp, SLLI, SRLI, SRAI, SOp, SD, FSD, BOp, BEQ, BNE, BLT, BGE, BLTU, BGEU, UOp, LUI, AUIPC, JOp, JAL}
use Rattle.isa.specs.Decode.{decode}
use Rattle.text.specs.Ascii.{bytes}
use Rattle.text.specs.Digits.{decimal, integer_bytes}
use Rattle.print.specs.Text.{hex}

-- ---- names, as `rvv!` spells them

abbrev pub r_name : ROp → String
r_name ADD = "add"
r_name SUB = "sub"
r_name SLL = "sll"
r_name XOR = "xor"
r_name SRL = "srl"
r_name SRA = "sra"
r_name OR = "or"
r_name AND = "and"
r_name FSGNJ_D = "fsgnj.d"
r_name FSGNJN_D = "fsgnjn.d"
r_name FSGNJX_D = "fsgnjx.d"
r_name FMIN_D = "fmin.d"
r_name FMAX_D = "fmax.d"
r_name FLE_D = "fle.d"
r_name FLT_D = "flt.d"
r_name FEQ_D = "feq.d"

abbrev pub f_name : FOp → String
f_name FADD_D = "fadd.d"
f_name FSUB_D = "fsub.d"
f_name FMUL_D = "fmul.d"
f_name FDIV_D = "fdiv.d"

abbrev pub c_name : COp → String
c_name FSQRT_D = "fsqrt.d"
c_name FCVT_W_D = "fcvt.w.d"
c_name FCVT_L_D = "fcvt.l.d"
c_name FCVT_D_W = "fcvt.d.w"
c_name FCVT_D_L = "fcvt.d.l"

abbrev pub m_name : MOp → String
m_name FMV_X_D = "fmv.x.d"
m_name FMV_D_X = "fmv.d.x"

abbrev pub r4_name : R4Op → String
r4_name FMADD_D = "fmadd.d"
r4_name FMSUB_D = "fmsub.d"
r4_name FNMSUB_D = "fnmsub.d"
r4_name FNMADD_D = "fnmadd.d"

abbrev pub i_name : IOp → String
i_name ADDI = "addi"
i_name XORI = "xori"
i_name ORI = "ori"
i_name ANDI = "andi"
i_name JALR = "jalr"
i_name LD = "ld"
i_name FLD = "fld"
i_name ADDIW = "addiw"

abbrev pub shift_name : ShiftOp → String
shift_name SLLI = "slli"
shift_name SRLI = "srli"
shift_name SRAI = "srai"

abbrev pub s_name : SOp → String
s_name SD = "sd"
s_name FSD = "fsd"

abbrev pub b_name : BOp → String
b_name BEQ = "beq"
b_name BNE = "bne"
b_name BLT = "blt"
b_name BGE = "bge"
b_name BLTU = "bltu"
b_name BGEU = "bgeu"

abbrev pub u_name : UOp → String
u_name LUI = "lui"
u_name AUIPC = "auipc"

abbrev pub j_name : JOp → String
j_name JAL = "jal"

abbrev pub name : Instr → String
name (R k rd rs1 rs2) = r_name k
name (F k rd rs1 rs2 rm) = f_name k
name (C k rd rs1 rm) = c_name k
name (M k rd rs1) = m_name k
name (R4 k rd rs1 rs2 rs3 rm) = r4_name k
name (I k rd rs1 imm) = i_name k
name (Shift k rd rs1 shamt) = shift_name k
name (S k rs1 rs2 imm) = s_name k
name (B k rs1 rs2 offset) = b_name k
name (U k rd imm) = u_name k
name (J k rd offset) = j_name k

-- ---- a line

-- "operands in `rvv!` order": "every rounding field shows .. last"; of a store what is stored comes first, then the base
abbrev pub shown : Instr → List ℤ
shown (R k rd rs1 rs2) = pos rd ∷ pos rs1 ∷ pos rs2 ∷ []
shown (F k rd rs1 rs2 rm) = pos rd ∷ pos rs1 ∷ pos rs2 ∷ pos rm ∷ []
shown (C k rd rs1 rm) = pos rd ∷ pos rs1 ∷ pos rm ∷ []
shown (M k rd rs1) = pos rd ∷ pos rs1 ∷ []
shown (R4 k rd rs1 rs2 rs3 rm) = pos rd ∷ pos rs1 ∷ pos rs2 ∷ pos rs3 ∷ pos rm ∷ []
shown (I k rd rs1 imm) = pos rd ∷ pos rs1 ∷ imm ∷ []
shown (Shift k rd rs1 shamt) = pos rd ∷ pos rs1 ∷ shamt ∷ []
shown (S k rs1 rs2 imm) = pos rs2 ∷ pos rs1 ∷ imm ∷ []
shown (B k rs1 rs2 offset) = pos rs1 ∷ pos rs2 ∷ offset ∷ []
shown (U k rd imm) = pos rd ∷ imm ∷ []
shown (J k rd offset) = pos rd ∷ offset ∷ []

-- "decimal, parted by commas" (44)
unfoldable pub operands_text : List ℤ → List ℕ
operands_text [] = []
operands_text (z ∷ zs) = 44 ∷ (integer_bytes z ++ operands_text zs)

-- "prints offset, name and operands", and byte 10
unfoldable pub instr_line : (offset : ℕ) → Instr → List ℕ
instr_line offset i = decimal offset ++ (44 ∷ (bytes (name i) ++ (operands_text (shown i) ++ (10 ∷ []))))

-- "`data` and 8 hex digits a word"
unfoldable pub data_line : (offset w : ℕ) → List ℕ
data_line offset w = decimal offset ++ (bytes ",data," ++ (hex w ++ (10 ∷ [])))

-- ---- all lines of code; `constants` is the offset where its constants start

abbrev pub line_of : (offset : ℕ) → Option Instr → List ℕ
line_of offset (some i) = instr_line offset i
line_of offset none = []

-- a word's line: its instruction's before the constants, `data` "from the offset given"
unfoldable pub listing_line : (constants offset w : ℕ) → List ℕ
listing_line constants offset w = cond (ltb offset constants) (line_of offset (decode w)) (data_line offset w)

-- a line for each word, the first at this offset
unfoldable pub listing_lines : (constants offset : ℕ) → List ℕ → List ℕ
listing_lines constants offset [] = []
listing_lines constants offset (w ∷ ws) = listing_line constants offset w ++ listing_lines constants (offset + 4) ws

-- ---- the same but for hidden constants

-- "eight hyphens in place of the digits"
unfoldable pub hidden_line : (offset : ℕ) → List ℕ
hidden_line offset = decimal offset ++ (bytes ",data,--------" ++ (10 ∷ []))

-- the word at this offset is a half of a hidden constant; constant k is the two words from `constants` + 8 × k on
abbrev pub hidden_half : (hidden : ℕ → Bool) → (constants offset : ℕ) → Bool
hidden_half hidden constants offset = leb constants offset && hidden ((offset - constants) / 8)

-- a word's line in a view: point 5's, "the same but for" a hidden half's
unfoldable pub view_line : (hidden : ℕ → Bool) → (constants offset w : ℕ) → List ℕ
view_line hidden constants offset w =
    cond (hidden_half hidden constants offset) (hidden_line offset) (listing_line constants offset w)

-- a line for each word, the first at this offset
unfoldable pub view_lines : (hidden : ℕ → Bool) → (constants offset : ℕ) → List ℕ → List ℕ
view_lines hidden constants offset [] = []
view_lines hidden constants offset (w ∷ ws) =
    view_line hidden constants offset w ++ view_lines hidden constants (offset + 4) ws

-- a byte for each constant: 0 where it shows, and where there is no byte
abbrev pub marked : (marks : List ℕ) → (k : ℕ) → Bool
marked marks k = not (eqb (get_or marks k 0) 0)

-- ---- foreign words

abbrev pub no_instr : Option Instr → Bool
no_instr (some i) = false
no_instr none = true

-- "word outside the constants that no accepted instruction has"
unfoldable pub foreign : (constants offset w : ℕ) → Bool
foreign constants offset w = ltb offset constants && no_instr (decode w)

-- the first one's place
unfoldable pub foreign_from : (constants offset : ℕ) → List ℕ → Option ℕ
foreign_from constants offset [] = none
foreign_from constants offset (w ∷ ws) =
    let rest = foreign_from constants (offset + 4) ws in cond (foreign constants offset w) (some offset) rest

abbrev pub first_answer : Prelude.Option ℕ → Option ℕ
first_answer (Some place) = some place
first_answer None = none
