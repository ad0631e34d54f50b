-- Document 02, point 3: what the number reader answers of a line from a field's first byte on.
use Rattle.std.specs.Prelude.{◌≡◌, List, ◌∷◌, ◌++◌, ℕ}
use Rattle.std.specs.Prelude as rust
use Rattle.text.specs.Readers.{read_decimal, numeral, upto, field}
use Rattle.text.specs.declared.Number.{Number}

-- "the number and where the comma or the line's end stopped it"
abbrev pub reads : List ℕ → rust.Option Number × ℕ
reads s = (numeral (read_decimal (field s)), upto s)

-- "No byte behind the field's comma alters the answer": bytes f are read alike whether a comma and any bytes t follow, or the line ends.
abbrev pub CommaEnds : Type 0
CommaEnds = (f t : List ℕ) → reads (f ++ 44 ∷ t) ≡ reads f
