-- An entry of label memory: its low half is 0 where the label is unset, else the label's place plus 1.
-- Its high half is the number of jumps made to the label (document 02, point 2).
use Rattle.std.specs.Prelude.{Bool, not, ℕ, ◌+◌, ◌-◌, ◌*◌, ◌/◌, ◌%◌, ◌^◌, eqb}

abbrev pub is_set : ℕ → Bool
is_set e = not (eqb (e % 2 ^ 32) 0)

-- the place of a label that is set
abbrev pub place_of : ℕ → ℕ
place_of e = e % 2 ^ 32 - 1

-- an unset label's entry with a place
abbrev pub with_place : ℕ → ℕ → ℕ
with_place e p = e / 2 ^ 32 * 2 ^ 32 + (p + 1)

-- the number of jumps made to a label
abbrev pub made : ℕ → ℕ
made e = e / 2 ^ 32

-- an entry with one jump more
abbrev pub one_more : ℕ → ℕ
one_more e = e + 2 ^ 32
