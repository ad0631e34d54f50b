-- What orders mean on IEEE 754 binary64, at closed inputs: they compute.
use mathlib.Core.Path.{◌≡◌, refl}
use mathlib.Core.Bool.{true, false}
use mathlib.Core.List.{[], ◌∷◌, map}
use Prim.Native.Nat.{ℕ, ◌+◌}
use lib.ListN.{get_or}
use Rattle.machine.specs.Word.{upd}
use Rattle.machine.specs.Floats.{one, minus_one}
use Rattle.machine.proofs.Binary64.{binary64}
use Rattle.ast.specs.declared.Place.{Place}
use Rattle.ast.specs.declared.Place.TheVariants.{Mem, Stack, Param}
use Rattle.ast.specs.declared.Unary.TheVariants.{Fmov, Recip, Round, Floor, Not}
use Rattle.ast.specs.declared.Scratched.TheVariants.{Sign, Frac}
use Rattle.ast.specs.declared.Binary.TheVariants.{Minus, Times, Divide, Gt, Neq, And, Andnot, Or, Xor}
use Rattle.ast.specs.declared.Fused.TheVariants.{MulAdd, MulSub, NegMulAdd, NegMulSub}
use Rattle.ast.specs.declared.Order.{Order}
use Rattle.ast.specs.declared.Order.TheVariants.{Unary, Scratched, Binary, Fused, Ifelse, LoadConst, Load, Save, BranchIf, SetLabel}
use Rattle.ast.specs.declared.Constant.TheVariants.{Bits}
use Rattle.reading.specs.Line.{order, constant, weight}
use Rattle.reading.specs.Meaning.{on, to, Meaning, all_ones, choose, unary, scratched, binary, fused, meaning}

-- f0 to f7 are 2.5, -0.25, 3.0, 2.0, -0.0, a NaN and the bits 1100 and 1010; f10 is 4.0, the others are 0.0
abbrev registers : ℕ → ℕ
registers r =
    get_or (0x4004000000000000 ∷ 0xbfd0000000000000 ∷ 0x4008000000000000 ∷ 0x4000000000000000 ∷ 0x8000000000000000 ∷ 0x7ff8000000000000 ∷ 0b1100 ∷ 0b1010 ∷ 0 ∷ 0 ∷ 0x4010000000000000 ∷ []) r 0

abbrev cells : Place → ℕ → ℕ
cells Mem i = 100 + i
cells Stack i = 0b1001 + i
cells Param i = 300 + i

-- rounding to nearest even; constant k is 1000 + k
abbrev means : Order → Meaning
means o = meaning binary64 registers 0 cells (λ k. 1000 + k) o

-- what f31 holds afterwards
abbrev f31 : Order → ℕ
f31 o = (means o).f 31

pub unaries : map f31 (Unary Fmov 31 0 ∷ Unary Recip 31 3 ∷ Unary Recip 31 10 ∷ Unary Round 31 0 ∷ Unary Floor 31 1 ∷ Unary Not 31 6 ∷ []) ≡ 0x4004000000000000 ∷ 0x3fe0000000000000 ∷ one ∷ 0x4000000000000000 ∷ minus_one ∷ 0xfffffffffffffff3 ∷ []
unfolding meaning unary upd binary64
unaries = refl

-- the scratch register may be the operand
pub scratches : map f31 (Scratched Sign 31 0 30 ∷ Scratched Sign 31 1 30 ∷ Scratched Sign 31 4 30 ∷ Scratched Sign 31 5 30 ∷ Scratched Sign 31 0 0 ∷ Scratched Frac 31 1 30 ∷ Scratched Frac 31 1 1 ∷ []) ≡ one ∷ minus_one ∷ 0 ∷ 0 ∷ 0 ∷ 0x3fe8000000000000 ∷ 0 ∷ []
unfolding meaning scratched upd binary64
scratches = refl

pub binaries : map f31 (Binary Minus 31 2 3 ∷ Binary Times 31 2 3 ∷ Binary Divide 31 3 10 ∷ Binary Gt 31 2 3 ∷ Binary Gt 31 3 2 ∷ Binary Neq 31 5 5 ∷ Binary Neq 31 3 3 ∷ Binary And 31 6 7 ∷ Binary Andnot 31 6 7 ∷ Binary Or 31 6 7 ∷ Binary Xor 31 6 7 ∷ [])
    ≡ one ∷ 0x4018000000000000 ∷ 0x3fe0000000000000 ∷ all_ones ∷ 0 ∷ all_ones ∷ 0 ∷ 0b1000 ∷ 0b0010 ∷ 0b1110 ∷ 0b0110 ∷ []
unfolding meaning binary upd binary64
binaries = refl

-- 3 × 2 + 4, 3 × 2 - 4, 4 - 3 × 2, -4 - 3 × 2
pub fuseds : map f31 (Fused MulAdd 31 2 3 10 ∷ Fused MulSub 31 2 3 10 ∷ Fused NegMulAdd 31 2 3 10 ∷ Fused NegMulSub 31 2 3 10 ∷ []) ≡ 0x4024000000000000 ∷ 0x4000000000000000 ∷ 0xc000000000000000 ∷ 0xc024000000000000 ∷ []
unfolding meaning fused upd binary64
fuseds = refl

pub loads : map f31 (Ifelse 31 6 7 0 ∷ LoadConst 31 3 ∷ Load 31 Mem 3 ∷ Load 31 Stack 3 ∷ Load 31 Param 3 ∷ Save 31 Mem 3 ∷ SetLabel 3 ∷ []) ≡ 0b1010 ∷ 1003 ∷ 103 ∷ 0b1100 ∷ 303 ∷ 0 ∷ 0 ∷ []
unfolding meaning choose upd
loads = refl

-- a cell is written
pub saves : (means (Save 2 Param 3)).cells ≡ record { place = Param; index = 3; bits = 0x4008000000000000 } ∷ []
unfolding meaning
saves = refl

-- minus zero isn't zero bits
pub exits : map (λ o. (means o).exit) (BranchIf 4 9 true ∷ BranchIf 4 9 false ∷ BranchIf 8 9 true ∷ BranchIf 8 9 false ∷ SetLabel 9 ∷ []) ≡ to 9 ∷ on ∷ on ∷ to 9 ∷ on ∷ []
unfolding meaning
exits = refl

-- labels and constants count for no order
pub weights : map weight (order (Unary Fmov 1 1) ∷ order (SetLabel 9) ∷ constant (Bits 0) ∷ []) ≡ 1 ∷ 0 ∷ 0 ∷ []
weights = refl
