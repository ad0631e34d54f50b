-- THE GRAMMAR of a line (document 01, "The deck file"): a line is read exactly where it is the text of one, and as that one.
-- The statement; it is proved in `proofs/Grammar`. It fixes `said`, so nothing that stands behind `said` needs belief.
use Rattle.std.specs.Prelude.{◌≡◌, List, ℕ}
use Rattle.std.proofs.Math.Option.{Option, some, map}
use Rattle.form.specs.Text.{DeckLine, text, Fits}
use Rattle.form.specs.Inner.Syntax.{line}
use Rattle.form.specs.Inner.Read.{read}

-- what a line's bytes say, if they are the text of a line
unfoldable pub said : List ℕ → Option DeckLine
said s = map line (read s)

abbrev pub Grammar : Type 0
Grammar =
    ((s : List ℕ) (l : DeckLine) → said s ≡ some l → Fits l × (text l ≡ s))
    × ((l : DeckLine) → Fits l → said (text l) ≡ some l)
