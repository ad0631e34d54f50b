-- A word in bytes, which the loop over them takes out.
use Rattle.std.specs.Prelude.{List, ℕ, ◌+◌, get_or}
use Rattle.print.specs.Text.{le_word}

-- the word from byte i on
abbrev pub word_in : List ℕ → (i : ℕ) → ℕ
word_in s i = le_word (get_or s i 0) (get_or s (i + 1) 0) (get_or s (i + 2) 0) (get_or s (i + 3) 0)
