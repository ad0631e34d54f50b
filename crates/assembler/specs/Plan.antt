-- An order as its words and the jumps behind them, and the refusal of an operand, if one is refused.
use Rattle.std.specs.Prelude.{Bool, cond, List, [], ◌∷◌, ◌++◌, map, ℕ, ◌+◌, min, ltb, get_or, take, set, replicate, Option, Some, None, Result, Ok, Err}
use Rattle.std.specs.Option.{option_map}
use Rattle.base.specs.Tests.{all}
use Rattle.refusal.specs.Number.{number_of}
pub use Rattle.refusal.specs.Number.{fault_number}
use Rattle.refusal.specs.declared.Refusal.{Refusal}
use Rattle.refusal.specs.declared.Refusal.TheVariants.{Register, Value, Label, Twice, Unset, Far, Full, Closed, Count, Base, Unsaved, Line}
use Rattle.refusal.specs.declared.Refused.{Refused}
use Rattle.assembler.specs.Limit.{label_limit}
use Rattle.assembler.specs.Item.{Item, raw, jump}
use Rattle.assembler.specs.declared.Fault.{Fault}
use Rattle.assembler.specs.declared.JumpKind.TheVariants.{Auipc}
use Rattle.assembler.specs.declared.Tail.{Tail}
use Rattle.assembler.specs.declared.Tail.TheVariants.{Nothing, One, Pair}
use Rattle.assembler.specs.declared.Plan.{Plan}

-- ---- faults

-- where a number stands in document 01's order 12, 8, 1, 3, 2, 9, 10, 11, 4, 7 (then 5, 6; 0, no fault, is last)
abbrev pub ranks : List ℕ
ranks = 12 ∷ 2 ∷ 4 ∷ 3 ∷ 8 ∷ 10 ∷ 11 ∷ 9 ∷ 1 ∷ 5 ∷ 6 ∷ 7 ∷ 0 ∷ []

abbrev pub rank : ℕ → ℕ
rank n = get_or ranks n 13

-- the one of two faults that comes first
abbrev pub earlier : ℕ → ℕ → ℕ
earlier a b = cond (ltb (rank b) (rank a)) b a

-- a fault as a refusal
abbrev pub refusal_of : Fault → Refusal
refusal_of Fault.Register = Register
refusal_of Fault.Value = Value
refusal_of Fault.Label = Label
refusal_of Fault.Count = Count
refusal_of Fault.Base = Base
refusal_of Fault.Unsaved = Unsaved

-- document 01's number of what is wrong with an operand, 0 for nothing
abbrev pub operand_number : Option Fault → ℕ
operand_number f = fault_number (option_map refusal_of f)

abbrev pub first_of : Option Fault → Option Fault → Option Fault
first_of a b = cond (ltb (rank (operand_number b)) (rank (operand_number a))) b a

-- A refused instruction's: the encoder refuses registers and values; a number that isn't an operand's counts as a value.
abbrev pub refusal_fault : Refusal → Option Fault
refusal_fault Register = Some Fault.Register
refusal_fault Value = Some Fault.Value
refusal_fault Label = Some Fault.Label
refusal_fault Twice = Some Fault.Value
refusal_fault Unset = Some Fault.Value
refusal_fault Far = Some Fault.Value
refusal_fault Full = Some Fault.Value
refusal_fault Closed = Some Fault.Value
refusal_fault Count = Some Fault.Count
refusal_fault Base = Some Fault.Base
refusal_fault Unsaved = Some Fault.Unsaved
refusal_fault Line = Some Fault.Value

-- a label's: 2 above 2,038
abbrev pub label_fault : ℕ → ℕ
label_fault l = cond (ltb l label_limit) 0 (number_of Value)

-- a jump's: 1 a register above 31. Its label is looked at with the label's number: `numbers_sound`
abbrev pub jump_fault : (reg : ℕ) → ℕ
jump_fault r = cond (ltb r 32) 0 (number_of Register)

-- ---- plans

abbrev pub tail_items : Tail → List Item
tail_items Nothing = []
tail_items (One k l r) = jump k l r ∷ []
tail_items (Pair k l r) = jump Auipc l 0 ∷ jump k l r ∷ []

abbrev pub tail_fault : Tail → ℕ
tail_fault Nothing = 0
tail_fault (One k l r) = jump_fault r
tail_fault (Pair k l r) = jump_fault r

abbrev pub plan_words : Plan → List ℕ
plan_words p = take (min p.n 12) p.w

abbrev pub plan_items : Plan → Tail → List Item
plan_items p t = map raw (plan_words p) ++ tail_items t

-- a plan's own fault, or its tail's
abbrev pub plan_fault : Plan → Tail → ℕ
plan_fault p t = earlier (operand_number p.fault) (tail_fault t)

abbrev pub no_words : Plan
no_words = record { n = 0; fault = None; w = replicate 12 0 }

-- with a fault more
abbrev pub faulty : Plan → Option Fault → Plan
faulty p f = record { n = p.n; fault = first_of p.fault f; w = p.w }

-- One instruction more; a 13th word is a fault.
unfoldable pub pushed : Plan → Result ℕ Refused → Plan
pushed p (Ok x) =
    cond (ltb p.n 12) (record { n = p.n + 1; fault = p.fault; w = set p.w p.n x }) (faulty p (Some Fault.Value))
pushed p (Err e) = faulty p (refusal_fault e.why)

-- ---- labels that a whole would set

abbrev pub all_labels : List ℕ → Bool
all_labels ls = all (λ l. ltb l label_limit) ls

-- their fault: 2 where one is above 2,038
abbrev pub sets_fault : List ℕ → ℕ
sets_fault ls = cond (all_labels ls) 0 (number_of Value)
