-- What a call of `deck_view` tells an attendant (document 02, point 10): nothing of the digits of `bits` lines. The statement; it is proved
-- in `proofs`, from `Unseen` (crate listing).
use Rattle.std.specs.Prelude.{◌≡◌, List, ℕ, ◌<◌}
use Rattle.text.specs.Lines.{lines_of}
use Rattle.listing.specs.Views.{deck_view}
use Rattle.listing.specs.Unseen.{Alike}
use Rattle.handheld.specs.Numbers.{DeckListed, view_of}

-- Two files that differ only there, and the same memory lent: the same answer, the same numbers told, the same bytes left in it.
abbrev pub SameTold : Type 0
SameTold =
    (view : ℕ) (file file' out : List ℕ)
    → 0 < view
    → Alike (lines_of file) (lines_of file')
    → (answer answer' : ℕ) (told told' after after' : List ℕ)
    → DeckListed file (deck_view (view_of view) file) answer told out after
    → DeckListed file' (deck_view (view_of view) file') answer' told' out after'
    → (answer ≡ answer') × (told ≡ told') × (after ≡ after')
