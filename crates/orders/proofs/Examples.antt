-- Closed orders: what is refused at its edges, and words. They compute.
use mathlib.Core.Path.{◌≡◌, refl}
use mathlib.Core.Bool.{true}
use mathlib.Core.List.{List, [], ◌∷◌, map}
use Prim.Native.Nat.{ℕ, ◌*◌}
use lib.ListN.{length}
use Rattle.isa.specs.Encode.{encode, join, fields}
use Rattle.machine.specs.State.{State}
use Rattle.ast.specs.Uses.{uses}
use Rattle.ast.specs.declared.Place.TheVariants.{Mem, Stack, Param}
use Rattle.ast.specs.declared.Unary.TheVariants.{Fmov, Recip}
use Rattle.ast.specs.declared.Scratched.TheVariants.{Sign}
use Rattle.ast.specs.declared.Binary.TheVariants.{Xor}
use Rattle.ast.specs.declared.Fused.TheVariants.{MulAdd}
use Rattle.ast.specs.declared.Order.{Order}
use Rattle.ast.specs.declared.Order.TheVariants.{Unary, Scratched, Binary, Fused, Ifelse, LoadConst, Load, Save, BranchIf, SetLabel}
use Rattle.assembler.specs.Resolved.{resolved}
use Rattle.accesses.specs.Code.{li_code, point_code, access_code}
use Rattle.orders.specs.Code.{unary_code, scratched_code, binary_code, code}
use Rattle.orders.specs.Fault.{fault}
use Rattle.orders.specs.Does.{accessed}

-- registers to 31, users' labels to 1,023, cells to 268,435,455, constants to 1,007
pub accepted : map fault (Unary Fmov 31 31 ∷ Scratched Sign 31 31 31 ∷ Binary Xor 31 31 31 ∷ Fused MulAdd 31 31 31 31 ∷ Ifelse 31 31 31 268435455 ∷ LoadConst 31 1007 ∷ Load 31 Mem 268435455 ∷ Save 31 Param 268435455 ∷ BranchIf 31 1023 true ∷ SetLabel 1023 ∷ []) ≡ 0 ∷ 0 ∷ 0 ∷ 0 ∷ 0 ∷ 0 ∷ 0 ∷ 0 ∷ 0 ∷ 0 ∷ []
unfolding fault
accepted = refl

pub refused : map fault (Unary Fmov 0 32 ∷ Scratched Sign 0 0 32 ∷ Binary Xor 0 0 32 ∷ Fused MulAdd 0 0 0 32 ∷ Ifelse 0 0 0 268435456 ∷ LoadConst 0 1008 ∷ Load 0 Stack 268435456 ∷ Save 0 Mem 268435456 ∷ BranchIf 0 1024 true ∷ SetLabel 1024 ∷ []) ≡ 1 ∷ 1 ∷ 1 ∷ 1 ∷ 2 ∷ 9 ∷ 2 ∷ 2 ∷ 3 ∷ 3 ∷ []
unfolding fault
refused = refl

-- a register comes first
pub registers_first : map fault (Ifelse 32 0 0 268435456 ∷ LoadConst 32 1008 ∷ Load 32 Mem 268435456 ∷ Save 32 Mem 268435456 ∷ BranchIf 32 1024 true ∷ []) ≡ 1 ∷ 1 ∷ 1 ∷ 1 ∷ 1 ∷ []
unfolding fault
registers_first = refl

-- at 8, each label at 2056
abbrev order_words : Order → List ℕ
order_words o = resolved (λ l. 2056) 8 (code o)

-- fa0 from mem, stack and param; recip of fa1; sign of fa0 with scratch fa1; a constant; a branch
pub order_table : map order_words (Load 10 Mem 0 ∷ Load 10 Stack 0 ∷ Load 10 Param 0 ∷ Unary Recip 12 11 ∷ Scratched Sign 12 10 11 ∷ LoadConst 10 0 ∷ BranchIf 10 0 true ∷ [])
    ≡ (0x0004b507 ∷ []) ∷ (0x000ab507 ∷ []) ∷ (0x000a3507 ∷ []) ∷ (0x00100293 ∷ 0xd2028553 ∷ 0x1ab57653 ∷ [])
    ∷ (0xf20005d3 ∷ 0xa2a592d3 ∷ 0xa2b51353 ∷ 0x406282b3 ∷ 0xd2028653 ∷ []) ∷ (0x00001297 ∷ 0x8002b507 ∷ []) ∷ (0xe20502d3 ∷ 0x00028663 ∷ 0x00000297 ∷ 0x7f828067 ∷ []) ∷ []
unfolding resolved code unary_code scratched_code access_code encode join fields
order_table = refl

-- words of an access on both sides of 256 cells, of an order that needs none, and of xor with itself
pub lengths : map (λ o. length (order_words o)) (Load 10 Mem 255 ∷ Load 10 Mem 256 ∷ Ifelse 10 11 12 255 ∷ Ifelse 10 11 12 256 ∷ Unary Fmov 10 10 ∷ Unary Fmov 10 11 ∷ Binary Xor 10 11 11 ∷ Binary Xor 10 11 12 ∷ SetLabel 0 ∷ []) ≡ 1 ∷ 4 ∷ 8 ∷ 11 ∷ 0 ∷ 1 ∷ 1 ∷ 4 ∷ 0 ∷ []
unfolding resolved code unary_code binary_code access_code point_code li_code
lengths = refl

-- register r holds 1000 × r, so that s1, s4 and s5 are 9000, 20000 and 21000
abbrev state : State
state = record { pc = 64; x = λ r. 1000 * r; f = λ r. 0; rm = 0; mem = λ a. 0 }

-- what each kind of order accesses, in code at 64 with each label at 2056: a cell, a constant's place, or nothing
pub accesses : map (λ o. accessed (λ l. 2056) 64 state (uses o).operand) (Ifelse 1 2 3 4 ∷ LoadConst 1 0 ∷ Load 1 Mem 2 ∷ Save 1 Param 3 ∷ Unary Fmov 1 2 ∷ Scratched Sign 1 2 3 ∷ Binary Xor 1 2 3 ∷ Fused MulAdd 1 2 3 4 ∷ BranchIf 1 0 true ∷ SetLabel 0 ∷ [])
    ≡ (21032 ∷ []) ∷ (2120 ∷ []) ∷ (9016 ∷ []) ∷ (20024 ∷ []) ∷ [] ∷ [] ∷ [] ∷ [] ∷ [] ∷ [] ∷ []
accesses = refl
