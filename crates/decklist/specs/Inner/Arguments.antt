-- What the program's arguments ask for. It has no argument, or one: the word `attendant`.
use Rattle.std.specs.Prelude.{◌&&◌, cond, List, ℕ, eqb, ltb, Option, Some, None}
use Rattle.text.specs.Ascii.{bytes}
use Rattle.text.specs.Readers.{same}
use Rattle.listing.specs.declared.View.TheVariants.{Maintainer, Attendant}
use Rattle.listing.specs.declared.View.{View}

-- `count` includes the program's own name; `word` is the first behind it
abbrev pub asked_for : (count : ℕ) → (word : List ℕ) → Option View
asked_for count word =
    cond (ltb count 2) (Some Maintainer) (cond (eqb count 2 && same word (bytes "attendant")) (Some Attendant) None)
