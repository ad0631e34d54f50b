-- The fast path's numbers.
use Rattle.std.specs.Prelude.{cond, ◌&&◌, List, ℕ, ◌+◌, ltb, leb, length, drop}
use Rattle.std.proofs.Math.Option.{Option, some, none}
use Rattle.std.specs.Prelude as rust
use Rattle.std.specs.Prelude.{Some, None}
use Rattle.text.specs.Readers.{read_decimal, upto, field, end_from}

-- a number below 10,000; 10,000 for everything else
abbrev pub capped : Option ℕ → ℕ
capped none = 10000
capped (some n) = cond (ltb n 10000) n 10000

-- that of a field
unfoldable pub short_of : List ℕ → ℕ
short_of f = capped (read_decimal f)

-- a number, if it is below the bound
abbrev pub below : (bound n : ℕ) → rust.Option ℕ
below b n = cond (ltb n b) (Some n) None

-- that of the first field, and how many bytes it has
abbrev pub short : List ℕ → rust.Option ℕ × ℕ
short s = (below 10000 (short_of (field s)), upto s)

-- The number below 100 of the field that starts at place a, where a comma ends it; 100 for everything else, and where fewer than three
-- bytes stand from a on. So what stands behind the comma may decide whether a field is taken; nothing else of the answer.
unfoldable pub near_number : List ℕ → (a : ℕ) → ℕ
near_number s a =
    let x = short_of (field (drop a s)) in
    cond (leb (a + 3) (length s) && (ltb (end_from s a) (length s) && ltb x 100)) x 100

-- and where that field ends
abbrev pub near : List ℕ → (a : ℕ) → rust.Option (ℕ × ℕ)
near s a = cond (ltb (near_number s a) 100) (Some (near_number s a, end_from s a)) None
