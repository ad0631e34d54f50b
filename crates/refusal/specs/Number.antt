-- Document 01's table "Numbers of refusal".
use Rattle.std.specs.Prelude.{ℕ, Option, None, Some}
use Rattle.refusal.specs.declared.Refusal.{Refusal}
use Rattle.refusal.specs.declared.Refusal.TheVariants.{Register, Value, Label, Twice, Unset, Far, Full, Closed, Count, Base, Unsaved, Line}

abbrev pub number_of : Refusal → ℕ
number_of Register = 1
number_of Value = 2
number_of Label = 3
number_of Twice = 4
number_of Unset = 5
number_of Far = 6
number_of Full = 7
number_of Closed = 8
number_of Count = 9
number_of Base = 10
number_of Unsaved = 11
number_of Line = 12

-- the number of what is wrong, 0 for nothing
abbrev pub fault_number : Option Refusal → ℕ
fault_number None = 0
fault_number (Some r) = number_of r
