-- What an accepted file has (document 01, "Numbers of refusal" and "Count"), as far as a call rests on it.
use mathlib.Core.Path.{◌≡◌}
use mathlib.Core.List.{List}
use mathlib.Core.Option.{some, IsSome}
use Prim.Native.Nat.{ℕ, ◌^◌, ◌≤◌, ◌<◌}
use lib.Dec.{T}
use lib.ListN.{length, get_or, get_elem?}
use Rattle.ast.specs.Counts.{cap_holds, epilogue_holds}
use Rattle.ast.specs.Uses.{uses, index_holds, saves_hold}
use Rattle.ast.specs.declared.Order.{Order}
use Rattle.ast.specs.declared.Operand.{Operand}
use Rattle.ast.specs.declared.Operand.TheVariants.{Nothing, Loaded, Stored, Constant, GoneTo, Set}
use Rattle.reading.specs.Line.{Line, order}
use Rattle.orders.specs.Fault.{fault}
use Rattle.reading.specs.Program.{Program, constants, label_line}
use Rattle.call.specs.Layout.{code_length}

-- 5: a branch's label is set, and a constant that is loaded is there
abbrev pub OperandNamed : List Line → Operand → Type 0
OperandNamed ls Nothing = Unit {0}
OperandNamed ls (Loaded p i) = Unit {0}
OperandNamed ls (Stored p i) = Unit {0}
OperandNamed ls (Constant k) = k < length (constants ls)
OperandNamed ls (GoneTo l) = IsSome (label_line l 0 ls)
OperandNamed ls (Set l) = Unit {0}

abbrev pub Named : List Line → Order → Type 0
Named ls o = OperandNamed ls (uses o).operand

pub record GoodOrder (p : Program) (o : Order) : Type 0 where
  pub fault_free : fault o ≡ 0
  pub index : T (index_holds p.head o)
  pub saves : T (saves_hold p.head.mask o)
  pub named : Named p.lines o

pub record Good (p : Program) : Type 0 where
  -- counts of line 1
  pub counts : T (epilogue_holds p.head)
  pub cap : T (cap_holds p.head)
  pub orders : (n : ℕ) (o : Order) → get_elem? p.lines n ≡ some (order o) → GoodOrder p o
  -- a constant has 64 bits
  pub bits : (k : ℕ) → k < length (constants p.lines) → get_or (constants p.lines) k 0 < 2 ^ 64
  -- 7: all words have room
  pub room : code_length p ≤ 65536
