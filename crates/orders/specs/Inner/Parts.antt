-- An order's items apart: its instructions, and what stands behind them.
use Rattle.std.specs.Prelude.{Bool, List, [], ◌∷◌, ℕ, ◌*◌, pos}
use Rattle.isa.specs.Register.{zero, t0}
use Rattle.isa.specs.Instr.{Instr, M, B, FMV_X_D}
use Rattle.accesses.specs.Code.{load_float_code, save_float_code}
use Rattle.assembler.specs.declared.Tail.{Tail}
use Rattle.assembler.specs.declared.JumpKind.TheVariants.{Jalr, Fld}
use Rattle.ast.specs.Constant.{constant_label}
use Rattle.ast.specs.declared.Order.{Order}
use Rattle.ast.specs.declared.Order.TheVariants.{Unary, Scratched, Binary, Fused, Ifelse, LoadConst, Load, Save, BranchIf, SetLabel}
use Rattle.orders.specs.Code.{base, unary_code, scratched_code, binary_code, fused_code, ifelse_code, skip}

-- the branch over a jump
abbrev pub skip_code : (c : ℕ) → Bool → List Instr
skip_code c e = M FMV_X_D t0 c ∷ B (skip e) t0 zero (pos 12) ∷ []

abbrev pub instrs : Order → List Instr
instrs (Unary k d s) = unary_code k d s
instrs (Scratched k d s t) = scratched_code k d s t
instrs (Binary k d a b) = binary_code k d a b
instrs (Fused k d a b c) = fused_code k d a b c
instrs (Ifelse d a b i) = ifelse_code d a b (8 * i)
instrs (LoadConst d k) = []
instrs (Load d p i) = load_float_code d (base p) (8 * i)
instrs (Save s p i) = save_float_code s (base p) (8 * i)
instrs (BranchIf c l e) = skip_code c e
instrs (SetLabel l) = []

-- the jumps behind them
abbrev pub tail_of : Order → Tail
tail_of (Unary k d s) = Tail.Nothing
tail_of (Scratched k d s t) = Tail.Nothing
tail_of (Binary k d a b) = Tail.Nothing
tail_of (Fused k d a b c) = Tail.Nothing
tail_of (Ifelse d a b i) = Tail.Nothing
tail_of (LoadConst d k) = Tail.Pair Fld (constant_label k) d
tail_of (Load d p i) = Tail.Nothing
tail_of (Save s p i) = Tail.Nothing
tail_of (BranchIf c l e) = Tail.Pair Jalr l zero
tail_of (SetLabel l) = Tail.Nothing
