-- WHAT THE ATTENDANT CAN'T SEE (document 02, point 10, its last sentence): the digits of `bits` lines.
-- The statement; it is proved in `proofs`.
use Rattle.std.specs.Prelude.{◌≡◌, List, [], ◌∷◌, ℕ, ◌^◌, ◌<◌}
use Rattle.text.specs.Lines.{lines_of}
use Rattle.form.specs.Text.{text, bits}
use Rattle.routine.specs.Routine.{program_of, summary_answer}
use Rattle.listing.specs.Views.{deck_view}
use Rattle.listing.specs.declared.View.TheVariants.{Attendant}

-- "differ only in the digits of `bits` lines, both well formed": line by line the same, but for lines that are `bits,` with 16 lowercase
-- hexadecimal digits in both. The other lines may be anything.
pub data Alike : List (List ℕ) → List (List ℕ) → Type 0 where
  end : Alike [] []
  same_line : (line : List ℕ) {ts us : List (List ℕ)} → Alike ts us → Alike (line ∷ ts) (line ∷ us)
  other_digits : (m n : ℕ) {ts us : List (List ℕ)} → m < 2 ^ 64 → n < 2 ^ 64
      → Alike ts us → Alike (text (bits m) ∷ ts) (text (bits n) ∷ us)

-- "the same listing, refusal, place and length": the same text, and all that the routine tells, which is number and line of a refusal, or
-- length, offset, counts and frame
abbrev pub Unseen : Type 0
Unseen =
    (file file' : List ℕ)
    → Alike (lines_of file) (lines_of file')
    → (deck_view Attendant file ≡ deck_view Attendant file')
    × (summary_answer (program_of 65536 file) ≡ summary_answer (program_of 65536 file'))
