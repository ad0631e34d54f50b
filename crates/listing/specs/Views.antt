-- Two views of a listing (document 02, point 10): what each shows of a deck file, and that nothing else differs.
use Rattle.std.specs.Prelude.{◌≡◌, Bool, true, false, cond, List, [], ◌∷◌, ◌++◌, ℕ, zero, suc, ◌+◌, ◌-◌, length, replicate}
use Rattle.refusal.specs.Answer.{Answer, accepted, refused}
use Rattle.ast.specs.declared.Constant.{Constant}
use Rattle.ast.specs.declared.Constant.TheVariants.{Float, Bits}
use Rattle.print.specs.Text.{words_of, refusal_line}
use Rattle.print.specs.Listing.{listing_line, hidden_half, view_lines}
use Rattle.assembler.specs.Bytes.{bytes}
use Rattle.reading.specs.Line.{Line, order, constant}
use Rattle.reading.specs.Program.{Program}
use Rattle.call.specs.Layout.{constants_offset, routine_words}
use Rattle.routine.specs.Routine.{program_of}
use Rattle.listing.specs.Listing.{deck_listing}
use Rattle.listing.specs.declared.View.{View}
use Rattle.listing.specs.declared.View.TheVariants.{Maintainer, Attendant}

-- which constants a view hides: from the attendant each `bits` one, from the maintainer none. Nothing else says what is hidden.
abbrev pub hides : View → Constant → Bool
hides Maintainer c = false
hides Attendant (Float x) = false
hides Attendant (Bits b) = true

-- whether constant k of the lines is hidden: "Constants are numbered as they come" (document 01)
unfoldable pub hidden_in : View → List Line → (k : ℕ) → Bool
hidden_in v [] k = false
hidden_in v (order o ∷ ls) k = hidden_in v ls k
hidden_in v (constant c ∷ ls) zero = hides v c
hidden_in v (constant c ∷ ls) (suc k) = hidden_in v ls k

-- the lines of a program's words, with what the view hides; or the routine's refusal
abbrev pub program_view : View → Answer Program → List ℕ
program_view v (accepted p) = view_lines (hidden_in v p.lines) (constants_offset p) 0 (words_of (bytes (routine_words p)))
program_view v (refused n line) = refusal_line n line

-- of a file, with the buffer at its full size
unfoldable pub deck_view : View → (file : List ℕ) → List ℕ
deck_view v file = program_view v (program_of 65536 file)

-- ---- what follows; proved in `proofs`

-- The maintainer's view is point 5's listing.
abbrev pub MaintainerSees : Type 0
MaintainerSees = (file : List ℕ) → deck_view Maintainer file ≡ deck_listing file

-- for each byte of a line of `length` bytes, whether it is a hidden digit: of a hidden word the eight before the line's end
abbrev pub line_flags : (hidden : Bool) → (length : ℕ) → List Bool
line_flags false n = replicate n false
line_flags true n = replicate (n - 9) false ++ (replicate 8 true ++ (false ∷ []))

-- for each byte of point 5's lines
unfoldable pub lines_flags : (hidden : ℕ → Bool) → (constants offset : ℕ) → List ℕ → List Bool
lines_flags hidden constants offset [] = []
lines_flags hidden constants offset (w ∷ ws) =
    line_flags (hidden_half hidden constants offset) (length (listing_line constants offset w))
    ++ lines_flags hidden constants (offset + 4) ws

-- for each byte of the listing; none of a refusal
abbrev pub hidden_digits : Answer Program → List Bool
hidden_digits (accepted p) = lines_flags (hidden_in Attendant p.lines) (constants_offset p) 0 (words_of (bytes (routine_words p)))
hidden_digits (refused n line) = []

-- hyphens (45) in place of the bytes that have a flag
unfoldable pub veiled : (flags : List Bool) → List ℕ → List ℕ
veiled [] bs = bs
veiled (f ∷ fs) [] = []
veiled (f ∷ fs) (b ∷ bs) = cond f 45 b ∷ veiled fs bs

-- The attendant's text is the maintainer's outside the hidden digits, which are hyphens; and so it is as long.
abbrev pub SameBut : Type 0
SameBut =
    (file : List ℕ)
    → (deck_view Attendant file ≡ veiled (hidden_digits (program_of 65536 file)) (deck_view Maintainer file))
    × (length (deck_view Attendant file) ≡ length (deck_view Maintainer file))
