-- The reader of a line: the inverse of its text (`proofs/Inverse`).
use Rattle.std.specs.Prelude.{Bool, true, false, cond, List, [], ◌∷◌, ℕ, ◌-◌, eqb, length, get_or, take}
use Rattle.std.proofs.Math.Option.{Option, some, none, map}
use Rattle.ast.specs.declared.Place.{Place}
use Rattle.text.specs.Readers.{read_decimal, read_integer, read_word, split, same}
use Rattle.form.specs.Text.{DeckLine, place_name, flag_name}
use Rattle.form.specs.Inner.Syntax.{Sort, number, integer, word, place, flag, Value, Values, names, sorts, Syntax, line}
use Rattle.form.specs.declared.Kind.{Kind}

-- the first member whose name is s
module _ {A : Type 0} where
  unfoldable pub first : (A → List ℕ) → List ℕ → List A → Option A
  first f s [] = none
  first f s (a ∷ more) = cond (same s (f a)) (some a) (first f s more)

  abbrev pub both : {B : Type 0} → Option A → Option B → Option (A × B)
  both none q = none
  both (some a) none = none
  both (some a) (some b) = some (a, b)

-- the kind that s names in a list of names
abbrev pub kind_in : List ℕ → List (List ℕ × Kind) → Option Kind
kind_in s ns = map (λ n. n.1) (first (λ n. n.0) s ns)

abbrev pub kind_of : List ℕ → Option Kind
kind_of s = kind_in s names

abbrev pub all_places : List Place
all_places = Place.Mem ∷ Place.Stack ∷ Place.Param ∷ []

abbrev pub all_flags : List Bool
all_flags = false ∷ true ∷ []

abbrev pub read_field : (s : Sort) → List ℕ → Option (Value s)
read_field number f = read_decimal f
read_field integer f = read_integer f
read_field word f = read_word f
read_field place f = first place_name f all_places
read_field flag f = first flag_name f all_flags

unfoldable pub read_values : (ss : List Sort) → List (List ℕ) → Option (Values ss)
read_values [] [] = some tt
read_values [] (f ∷ fs) = none
read_values (s ∷ ss) [] = none
read_values (s ∷ ss) (f ∷ fs) = both (read_field s f) (read_values ss fs)

abbrev pub with_values : (k : Kind) → Option (Values (sorts k)) → Option Syntax
with_values k none = none
with_values k (some vs) = some (record { kind = k; values = vs })

abbrev pub read_kind : Option Kind → List (List ℕ) → Option Syntax
read_kind none fs = none
read_kind (some k) fs = with_values k (read_values (sorts k) fs)

abbrev pub read_fields : List (List ℕ) → Option Syntax
read_fields [] = none
read_fields (f ∷ fs) = read_kind (kind_of f) fs

-- what the fields of a line say
abbrev pub fields_say : List (List ℕ) → Option DeckLine
fields_say fs = map line (read_fields fs)

-- fields behind commas, and byte 10
unfoldable pub read : List ℕ → Option Syntax
read s = cond (eqb (get_or s (length s - 1) 0) 10) (read_fields (split (take (length s - 1) s))) none
