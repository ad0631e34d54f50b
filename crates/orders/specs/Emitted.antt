-- What an order does to the assembler's state: all of its items are placed, or it is refused and nothing changes.
use Rattle.std.specs.Prelude.{cond, List, [], ℕ, eqb}
use Rattle.refusal.specs.Number.{number_of}
use Rattle.refusal.specs.declared.Refusal.TheVariants.{Register, Count, Unsaved}
use Rattle.ast.specs.Uses.{uses, registers_fit, index_holds, saves_hold}
use Rattle.ast.specs.declared.Head.{Head}
use Rattle.ast.specs.declared.Order.{Order}
use Rattle.assembler.specs.Item.{Item}
use Rattle.assembler.specs.State.{State, Outcome}
use Rattle.assembler.specs.Put.{put}
use Rattle.orders.specs.Code.{code}
use Rattle.orders.specs.Fault.{fault}

-- An order's items; none with an operand at fault, as a constant's number too high: there is no label whose number could be looked at.
abbrev pub items : Order → List Item
items o = cond (eqb (fault o) 0) (code o) []

abbrev pub emitted : (tag : ℕ) → Order → State → Outcome
emitted tag o s = put tag (fault o) (items o) s

-- ---- an order of a deck with line 1 H

-- its cell is not below its count: 1, then 9, whatever the index
abbrev pub count_fault : Order → ℕ
count_fault o = cond (registers_fit (uses o).registers) (number_of Count) (number_of Register)

-- it writes a register outside the mask, or a saved one's cell: its own fault, then 11
abbrev pub unsaved_fault : (fault : ℕ) → ℕ
unsaved_fault fault = cond (eqb fault 0) (number_of Unsaved) fault

abbrev pub fault_in : Head → Order → ℕ
fault_in H o = cond (index_holds H o) (cond (saves_hold H.mask o) (fault o) (unsaved_fault (fault o))) (count_fault o)

-- so 8, 1, 3, 2, 9, 11, 4, 7
abbrev pub emitted_in : Head → (tag : ℕ) → Order → State → Outcome
emitted_in H tag o s = put tag (fault_in H o) (items o) s
