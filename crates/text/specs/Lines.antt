-- A file as lines. Each keeps its byte 10; what stands behind the last byte 10 is a line without one.
use Rattle.std.specs.Prelude.{◌≡◌, cond, List, [], ◌∷◌, ℕ, ◌+◌, ◌-◌, ◌≤◌, ◌<◌, eqb, length, take, drop}
use Rattle.text.specs.Fields.{onto}

unfoldable pub lines_of : List ℕ → List (List ℕ)
lines_of [] = []
lines_of (b ∷ bs) = cond (eqb b 10) ((b ∷ []) ∷ lines_of bs) (onto b (lines_of bs))

abbrev pub first_length : List (List ℕ) → ℕ
first_length [] = 0
first_length (l ∷ ls) = length l

-- the line that starts at a ends in front of r: it is the first line of what stands from a on, and the others start at r
abbrev pub Ends : List ℕ → (a r : ℕ) → Type 0
Ends f a r =
    (r ≡ a + first_length (lines_of (drop a f)))
    × (a < length f → (a < r) × (r ≤ length f) × (lines_of (drop a f) ≡ take (r - a) (drop a f) ∷ lines_of (drop r f)))
