-- A line as text, by its kind and values: its name, each field behind a comma, and byte 10.
use mathlib.Core.List.{List, [], ◌∷◌, ◌++◌}
use Prim.Native.Nat.{ℕ, ◌<◌, ◌^◌}
use Rattle.text.specs.Digits.{decimal, integer_bytes, word_bytes}
use Rattle.text.specs.Fields.{commas}
use Rattle.form.specs.Inner.Syntax.{Sort, number, integer, word, place, flag, Value, Values, name, sorts, Syntax}
use Rattle.form.specs.Text.{place_name, flag_name}

-- ---- fields

abbrev pub field : (s : Sort) → Value s → List ℕ
field number n = decimal n
field integer z = integer_bytes z
field word n = word_bytes n
field place p = place_name p
field flag b = flag_name b

abbrev pub fields : (ss : List Sort) → Values ss → List (List ℕ)
fields [] vs = []
fields (s ∷ ss) vs = field s vs.0 ∷ fields ss vs.1

-- 16 hexadecimal digits are a number below 2^64; nothing else is asked
abbrev pub Holds : (s : Sort) → Value s → Type 0
Holds number n = Unit {0}
Holds integer z = Unit {0}
Holds word n = n < 2 ^ 64
Holds place p = Unit {0}
Holds flag b = Unit {0}

abbrev pub All : (ss : List Sort) → Values ss → Type 0
All [] vs = Unit {0}
All (s ∷ ss) vs = Holds s vs.0 × All ss vs.1

-- ---- lines

abbrev pub SyntaxFits : Syntax → Type 0
SyntaxFits l = All (sorts l.kind) l.values

unfoldable pub syntax_text : Syntax → List ℕ
syntax_text l = (name l.kind ++ commas (fields (sorts l.kind) l.values)) ++ (10 ∷ [])
