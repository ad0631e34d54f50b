-- What the orders refuse (document 01, "Numbers of refusal"; document 02, point 6): the number, or 0.
use Rattle.std.specs.Prelude.{cond, ℕ, ◌-◌, ◌*◌, leb}
use Rattle.refusal.specs.Number.{number_of}
use Rattle.refusal.specs.declared.Refusal.TheVariants.{Register, Value, Label, Count}
use Rattle.ast.specs.declared.Order.{Order}
use Rattle.ast.specs.declared.Operand.{Operand}
use Rattle.ast.specs.declared.Operand.TheVariants.{Nothing, Loaded, Stored, Constant, GoneTo, Set}
use Rattle.ast.specs.Constant.{constant_limit}
use Rattle.ast.specs.Uses.{uses, registers_fit}
use Rattle.accesses.specs.Fault.{offset_limit}

abbrev pub last_user_label : ℕ
last_user_label = 1023

-- an operand that is no register: the offset of a cell, a constant's number, a label
abbrev pub operand_fault : Operand → ℕ
operand_fault Nothing = 0
operand_fault (Loaded p i) = cond (leb (8 * i) offset_limit) 0 (number_of Value)
operand_fault (Stored p i) = cond (leb (8 * i) offset_limit) 0 (number_of Value)
operand_fault (Constant k) = cond (leb k (constant_limit - 1)) 0 (number_of Count)
operand_fault (GoneTo l) = cond (leb l last_user_label) 0 (number_of Label)
operand_fault (Set l) = cond (leb l last_user_label) 0 (number_of Label)

-- registers, and then the other operand
unfoldable pub fault : Order → ℕ
fault o = cond (registers_fit (uses o).registers) (operand_fault (uses o).operand) (number_of Register)
