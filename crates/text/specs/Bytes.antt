-- Bytes as one number, the first lowest.
use Rattle.std.specs.Prelude.{cond, ◌&&◌, List, [], ◌∷◌, ℕ, ◌+◌, ◌*◌, eqb, leb, length, get_or, take}

abbrev pub joined : List ℕ → ℕ
joined [] = 0
joined (b ∷ bs) = joined bs * 256 + b

-- e bytes and the comma behind them; 0 where none is there, e is above 6, or s has fewer than eight bytes
unfoldable pub word_to : List ℕ → ℕ → ℕ
word_to s e = cond (leb 8 (length s) && (leb e 6 && eqb (get_or s e 0) 44)) (joined (take (e + 1) s)) 0
