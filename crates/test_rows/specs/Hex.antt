-- What a column of hexadecimal digits spells.
use Rattle.std.specs.Prelude.{cond, ◌&&◌, List, [], ◌∷◌, ℕ, ◌+◌, ◌*◌, ◌-◌, ◌^◌, ltb, leb, eqb, length, get_or, take, drop, Option, Some, None}
use Rattle.std.specs.Option.{option_and_then}

-- the value of a hexadecimal digit in ASCII, 0..9 or a..f
abbrev pub digit_of : ℕ → Option ℕ
digit_of b = cond (leb 48 b && leb b 57) (Some (b - 48)) (cond (leb 97 b && leb b 102) (Some (b - 87)) None)

-- the number of 32 bits that hexadecimal digits spell behind those that spelled v
abbrev pub number_from : ℕ → List ℕ → Option ℕ
number_from v [] = Some v
number_from v (b ∷ bs) = option_and_then (λ d. cond (ltb v (2 ^ 28)) (number_from (v * 16 + d) bs) None) (digit_of b)

-- the number in the column from place a up to e, where the byte b stands behind it
abbrev pub column_of : List ℕ → (a e b : ℕ) → Option ℕ
column_of s a e b =
    cond (leb a e && ltb e (length s) && eqb (get_or s e 0) b) (number_from 0 (take (e - a) (drop a s))) None
