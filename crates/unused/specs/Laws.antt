-- What follows of the list (document 02, point 2). Statements; proved in `proofs`.
use Rattle.std.specs.Prelude.{◌≡◌, ◌&&◌, List, [], ◌∷◌, ℕ, ◌<◌, ltb, get_or}
use Rattle.base.specs.Tests.{member}
use Rattle.assembler.specs.Limit.{label_limit}
use Rattle.unused.specs.Unused.{is_unused, unused_in}

-- each member is below the next
abbrev pub Rises : List ℕ → Type 0
Rises [] = Unit {0}
Rises (l ∷ []) = Unit {0}
Rises (l ∷ m ∷ ls) = (l < m) × Rises (m ∷ ls)

abbrev pub Rising : Type 0
Rising = (memory : List ℕ) → Rises (unused_in memory)

-- "exactly": a number is a member where it is a label that is set and whose number is 0
abbrev pub Exact : Type 0
Exact = (memory : List ℕ) (l : ℕ) → member l (unused_in memory) ≡ (ltb l label_limit && is_unused (get_or memory l 0))
