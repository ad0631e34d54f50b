-- The instructions of each order (document 01, "mod.rs, orders").
use Rattle.std.specs.Prelude.{Bool, cond, List, [], ◌∷◌, ◌++◌, map, ℕ, ◌*◌, eqb, pos, negsuc}
use Rattle.isa.specs.Register.{zero, t0, t1, t2, s1, s4, s5}
use Rattle.isa.specs.Instr.{Instr, R, F, C, M, R4, I, B, R4Op, BOp}
use Rattle.isa.specs.Instr.{SUB, XOR, OR, AND, ADDI, XORI, BEQ, BNE, FSGNJ_D, FLT_D, FEQ_D, FSUB_D, FMUL_D, FDIV_D}
use Rattle.isa.specs.Instr.{FCVT_L_D, FCVT_D_W, FCVT_D_L, FMV_X_D, FMV_D_X, FMADD_D, FMSUB_D, FNMSUB_D, FNMADD_D}
use Rattle.ast.specs.declared.Place.{Place}
use Rattle.ast.specs.declared.Place.TheVariants.{Mem, Stack, Param}
use Rattle.ast.specs.declared.Unary as U
use Rattle.ast.specs.declared.Unary.TheVariants.{Fmov, Recip, Round, Floor, Not}
use Rattle.ast.specs.declared.Scratched as S
use Rattle.ast.specs.declared.Scratched.TheVariants.{Sign, Frac}
use Rattle.ast.specs.declared.Binary as Bin
use Rattle.ast.specs.declared.Binary.TheVariants.{Minus, Times, Divide, Gt, Neq, And, Andnot, Or, Xor}
use Rattle.ast.specs.declared.Fused as Fu
use Rattle.ast.specs.declared.Fused.TheVariants.{MulAdd, MulSub, NegMulAdd, NegMulSub}
use Rattle.ast.specs.declared.Order.{Order}
use Rattle.ast.specs.declared.Order.TheVariants.{Unary, Scratched, Binary, Fused, Ifelse, LoadConst, Load, Save, BranchIf, SetLabel}
use Rattle.ast.specs.Constant.{constant_label}
use Rattle.assembler.specs.Item.{Item, instr, jump, label}
use Rattle.assembler.specs.declared.JumpKind.TheVariants.{Auipc, Jalr, Fld}
use Rattle.accesses.specs.Code.{load_float_code, save_float_code, load_int_code}
use Rattle.reading.specs.Line.{Line, order, constant}

-- the register that a place's cells start at
abbrev pub base : Place → ℕ
base Mem = s1
base Stack = s5
base Param = s4

-- `not` and `neg`
abbrev pub invert : (d s : ℕ) → Instr
invert d s = I XORI d s (negsuc 0)

abbrev pub negate : (d s : ℕ) → Instr
negate d s = R SUB d zero s

-- bits and whole numbers go through t0 and t1; `recip` has its 1 in f10
unfoldable pub unary_code : U.Unary → (d s : ℕ) → List Instr
unary_code Fmov d s = cond (eqb d s) [] (R FSGNJ_D d s s ∷ [])
unary_code Recip d s = I ADDI t0 zero (pos 1) ∷ C FCVT_D_W 10 t0 0 ∷ F FDIV_D d 10 s 7 ∷ []
unary_code Round d s = C FCVT_L_D t0 s 0 ∷ C FCVT_D_L d t0 7 ∷ []
unary_code Floor d s = C FCVT_L_D t0 s 2 ∷ C FCVT_D_L d t0 7 ∷ []
unary_code Not d s = M FMV_X_D t0 s ∷ invert t0 t0 ∷ M FMV_D_X d t0 ∷ []

-- t is the scratch register
unfoldable pub scratched_code : S.Scratched → (d s t : ℕ) → List Instr
scratched_code Sign d s t = M FMV_D_X t zero ∷ R FLT_D t0 t s ∷ R FLT_D t1 s t ∷ R SUB t0 t0 t1 ∷ C FCVT_D_W d t0 0 ∷ []
scratched_code Frac d s t = C FCVT_L_D t0 s 2 ∷ C FCVT_D_L t t0 7 ∷ F FSUB_D d s t 7 ∷ []

unfoldable pub binary_code : Bin.Binary → (d a b : ℕ) → List Instr
binary_code Minus d a b = F FSUB_D d a b 7 ∷ []
binary_code Times d a b = F FMUL_D d a b 7 ∷ []
binary_code Divide d a b = F FDIV_D d a b 7 ∷ []
binary_code Gt d a b = R FLT_D t0 b a ∷ negate t0 t0 ∷ M FMV_D_X d t0 ∷ []
binary_code Neq d a b = R FEQ_D t0 a b ∷ negate t0 t0 ∷ invert t0 t0 ∷ M FMV_D_X d t0 ∷ []
binary_code And d a b = M FMV_X_D t0 a ∷ M FMV_X_D t1 b ∷ R AND t0 t0 t1 ∷ M FMV_D_X d t0 ∷ []
binary_code Andnot d a b = M FMV_X_D t0 a ∷ invert t0 t0 ∷ M FMV_X_D t1 b ∷ R AND t0 t0 t1 ∷ M FMV_D_X d t0 ∷ []
binary_code Or d a b = M FMV_X_D t0 a ∷ M FMV_X_D t1 b ∷ R OR t0 t0 t1 ∷ M FMV_D_X d t0 ∷ []
binary_code Xor d a b =
    cond (eqb a b) (M FMV_D_X d zero ∷ []) (M FMV_X_D t0 a ∷ M FMV_X_D t1 b ∷ R XOR t0 t0 t1 ∷ M FMV_D_X d t0 ∷ [])

abbrev pub fused_op : Fu.Fused → R4Op
fused_op MulAdd = FMADD_D
fused_op MulSub = FMSUB_D
fused_op NegMulAdd = FNMSUB_D
fused_op NegMulSub = FNMADD_D

-- the rounding mode is the one that the machine has
abbrev pub fused_code : Fu.Fused → (d a b c : ℕ) → List Instr
fused_code k d a b c = R4 (fused_op k) d a b c 7 ∷ []

-- the cell's bits choose: t1 has those of a, t2 those of b
abbrev pub choose_code : (d a b : ℕ) → List Instr
choose_code d a b =
    M FMV_X_D t1 a ∷ M FMV_X_D t2 b ∷ R AND t1 t1 t0 ∷ invert t0 t0 ∷ R AND t2 t2 t0 ∷ R OR t0 t1 t2 ∷ M FMV_D_X d t0 ∷ []

-- t0 is the stack's cell at the offset
abbrev pub ifelse_code : (d a b offset : ℕ) → List Instr
ifelse_code d a b n = load_int_code t0 (base Stack) n ++ choose_code d a b

-- the branch over a jump that is not taken: `beq` with is_else
abbrev pub skip : (is-else : Bool) → BOp
skip e = cond e BEQ BNE

unfoldable pub code : Order → List Item
code (Unary k d s) = map instr (unary_code k d s)
code (Scratched k d s t) = map instr (scratched_code k d s t)
code (Binary k d a b) = map instr (binary_code k d a b)
code (Fused k d a b c) = map instr (fused_code k d a b c)
code (Ifelse d a b i) = map instr (ifelse_code d a b (8 * i))
code (LoadConst d k) = jump Auipc (constant_label k) 0 ∷ jump Fld (constant_label k) d ∷ []
code (Load d p i) = map instr (load_float_code d (base p) (8 * i))
code (Save s p i) = map instr (save_float_code s (base p) (8 * i))
code (BranchIf c l e) =
    instr (M FMV_X_D t0 c) ∷ instr (B (skip e) t0 zero (pos 12)) ∷ jump Auipc l 0 ∷ jump Jalr l 0 ∷ []
code (SetLabel l) = label l ∷ []

-- a line's; constants stand behind all code
unfoldable pub line_code : Line → List Item
line_code (order o) = code o
line_code (constant c) = []
