-- Numbers and fields read from bytes: the inverse of `Digits` and `Fields` (`proofs/Numerals`, `proofs/Joined`).
use Rattle.std.specs.Prelude.{Bool, true, false, cond, ◌&&◌, not, List, [], ◌∷◌, ℕ, zero, suc, ◌+◌, ◌*◌, ◌-◌, ◌^◌, eqb, ltb, leb, ℤ, pos, negsuc, length, take, drop}
use Rattle.std.proofs.Math.Option.{Option, some, none, map}
use Rattle.text.specs.Fields.{onto}
use Rattle.std.specs.Prelude as rust
use Rattle.std.specs.Prelude.{Some, None, option_map}
use Rattle.text.specs.declared.Number.{Number}
use Rattle.text.specs.declared.Integer.{Integer}

-- ---- numbers

-- the value of a digit's byte, 16 for any other byte
abbrev pub digit_value : ℕ → ℕ
digit_value c = cond (leb 48 c && leb c 57) (c - 48) (cond (leb 97 c && leb c 102) (c - 87) 16)

-- digits in base b, behind those that gave v
unfoldable pub read_from : (b v : ℕ) → List ℕ → Option ℕ
read_from b v [] = some v
read_from b v (c ∷ cs) = cond (ltb (digit_value c) b) (read_from b (v * b + digit_value c) cs) none

-- at least one digit, and no 0 in front of another
unfoldable pub read_decimal : List ℕ → Option ℕ
read_decimal [] = none
read_decimal (c ∷ cs) = cond (eqb c 48 && not (eqb (length cs) 0)) none (read_from 10 0 (c ∷ cs))

abbrev pub negative : Option ℕ → Option ℤ
negative none = none
negative (some zero) = none
negative (some (suc n)) = some (negsuc n)

unfoldable pub read_integer : List ℕ → Option ℤ
read_integer [] = none
read_integer (c ∷ cs) = cond (eqb c 45) (negative (read_decimal cs)) (map pos (read_decimal (c ∷ cs)))

unfoldable pub read_word : List ℕ → Option ℕ
read_word s = cond (eqb (length s) 16) (read_from 16 0 s) none

-- ---- fields

unfoldable pub split : List ℕ → List (List ℕ)
split [] = [] ∷ []
split (c ∷ cs) = cond (eqb c 44) ([] ∷ split cs) (onto c (split cs))

-- the fields from place a of s on; none behind the end
unfoldable pub fields_from : List ℕ → ℕ → List (List ℕ)
fields_from s a = cond (ltb (length s) a) [] (split (drop a s))

-- the bytes in front of the first comma
unfoldable pub upto : List ℕ → ℕ
upto [] = 0
upto (c ∷ cs) = cond (eqb c 44) 0 (suc (upto cs))

-- the first field
abbrev pub field : List ℕ → List ℕ
field s = take (upto s) s

-- where the field that starts at place a ends, and where the next one starts
unfoldable pub end_from : List ℕ → ℕ → ℕ
end_from s a = cond (ltb (length s) a) a (a + upto (drop a s))

unfoldable pub next_from : List ℕ → ℕ → ℕ
next_from s a = cond (ltb (length s) a) a (a + upto (drop a s) + 1)

-- the number in the first of the fields
abbrev pub first_decimal : List (List ℕ) → Option ℕ
first_decimal [] = none
first_decimal (f ∷ fs) = read_decimal f

unfoldable pub same : List ℕ → List ℕ → Bool
same [] [] = true
same [] (b ∷ bs) = false
same (a ∷ xs) [] = false
same (a ∷ xs) (b ∷ bs) = eqb a b && same xs bs

-- ---- as the code has it

-- the code's own `Option`
abbrev pub as_option : {A : Type 0} → Option A → rust.Option A
as_option none = None
as_option (some x) = Some x

-- a number of any size as 64 bits hold it
abbrev pub sized : ℕ → Number
sized n = cond (ltb n (2 ^ 64)) (Number.Value n) Number.TooBig

abbrev pub numeral : Option ℕ → rust.Option Number
numeral o = option_map sized (as_option o)

-- with its minus, and its magnitude
abbrev pub integer : Option ℤ → rust.Option Integer
integer none = None
integer (some (pos n)) = Some (record { minus = false; magnitude = sized n })
integer (some (negsuc n)) = Some (record { minus = true; magnitude = sized (suc n) })

abbrev pub word : Option ℕ → rust.Option ℕ
word o = as_option o
