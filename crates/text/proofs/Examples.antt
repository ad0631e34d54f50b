-- Document 02, point 3: slices from a field's first byte on, each with the numeral and where the reader stops.
use mathlib.Core.Path.{◌≡◌, refl}
use mathlib.Core.Bool.{true}
use mathlib.Core.List.{List, ◌∷◌, [], ◌++◌}
use Prim.Native.Nat.{ℕ, ◌-◌, ◌^◌}
use lib.ListN.{replicate}
use Rattle.text.specs.Ascii.{bytes}
use Rattle.text.specs.Readers.{read_from, read_decimal, read_integer, integer, upto, end_from}
use Rattle.text.specs.Once.{reads}
use Rattle.text.specs.Inner.Short.{short_of, short, near_number, near}
use Rattle.text.specs.declared.Number.TheVariants.{Value, TooBig}
use Rattle.text.specs.declared.Number.{Number}
use Rattle.std.specs.Prelude as rust
use Rattle.std.specs.Prelude.{Some, None}

abbrev Answers : List ℕ → rust.Option Number → (stop : ℕ) → Type 0
Answers s n e = reads s ≡ (n, e)

well_formed :
    Answers (bytes "5,7") (Some (Value 5)) 1
    × Answers (bytes "5") (Some (Value 5)) 1
    × Answers (bytes "0,1") (Some (Value 0)) 1
    × Answers (bytes "31,mem,4") (Some (Value 31)) 2
    × Answers (bytes "31,") (Some (Value 31)) 2
    × Answers (bytes "31,,,x") (Some (Value 31)) 2
    × Answers (bytes "18446744073709551615,x") (Some (Value (2 ^ 64 - 1))) 20
    × Answers (bytes "18446744073709551616,x") (Some TooBig) 20
    × Answers (bytes "99999999999999999999999") (Some TooBig) 23
unfolding upto read_decimal read_from
well_formed = (refl, refl, refl, refl, refl, refl, refl, refl, refl)

-- each is read to its comma, or the end, all the same
malformed :
    Answers [] None 0
    × Answers (bytes ",5") None 0
    × Answers (bytes "00,1") None 2
    × Answers (bytes "01") None 2
    × Answers (bytes "1x,2") None 2
    × Answers (replicate 300 120 ++ bytes ",1") None 300
    × Answers (bytes "12 ,3") None 3
    × Answers (bytes "-1,2") None 2
    × Answers (55 ∷ 10 ∷ []) None 2
    × Answers (bytes "0x1f,") None 4
    × Answers (bytes "99999999999999999999999x,") None 24
unfolding upto read_decimal read_from
malformed = (refl, refl, refl, refl, refl, refl, refl, refl, refl, refl, refl)

-- a minus stands in front, once, and no comma behind
integers :
    (integer (read_integer (bytes "-9007199254740992")) ≡ Some (record { minus = true; magnitude = Value 9007199254740992 }))
    × (integer (read_integer (bytes "-0")) ≡ None)
    × (integer (read_integer (bytes "-")) ≡ None)
    × (integer (read_integer (bytes "--1")) ≡ None)
    × (integer (read_integer (bytes "1,")) ≡ None)
    × (integer (read_integer (bytes "-1,2")) ≡ None)
unfolding read_integer read_decimal read_from
integers = (refl, refl, refl, refl, refl, refl)

-- `near_field`, `short_field` and `short_number`
short_ones :
    (near (bytes "7,x") 0 ≡ Some (7, 1))
    × (near (bytes "31,x") 0 ≡ Some (31, 2))
    × (near (bytes "255,x") 0 ≡ None)
    × (near (bytes "07,x") 0 ≡ None)
    × (near (bytes "31") 0 ≡ None)
    × (near (bytes "7,") 0 ≡ None)
    × (short (bytes "7,x") ≡ (Some 7, 1))
    × (short (bytes "255,") ≡ (Some 255, 3))
    × (short (bytes "1000,") ≡ (Some 1000, 4))
    × (short (bytes "31") ≡ (Some 31, 2))
    × (short (bytes "10000,") ≡ (None, 5))
    × (short (bytes "07,") ≡ (None, 2))
    × (short_of (bytes "255") ≡ 255)
    × (short_of (bytes "4095") ≡ 4095)
    × (short_of (bytes "10000") ≡ 10000)
    × (short (bytes ",") ≡ (None, 0))
    × (short_of (bytes "7,") ≡ 10000)
unfolding near_number short_of upto end_from read_decimal read_from
short_ones = (refl, refl, refl, refl, refl, refl, refl, refl, refl, refl, refl, refl, refl, refl, refl, refl, refl)
