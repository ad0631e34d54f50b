-- The lines of the routine's answer: the code is what stands in the buffer.
use Rattle.std.specs.Prelude.{Bool, List, ℕ, ◌≤◌, length, take, Result}
use Rattle.refusal.specs.Answer.{Answer, accepted, refused}
use Rattle.routine.specs.Routine.{Summary}
use Rattle.print.specs.Text.{words_of, refusal_line, Puts}
use Rattle.print.specs.Listing.{view_lines}
use Rattle.print.specs.declared.TooLong.{TooLong}

-- `hidden` says of each constant whether it is hidden
abbrev pub summary_view : (hidden : ℕ → Bool) → Answer Summary → (code : List ℕ) → List ℕ
summary_view hidden (accepted t) code = view_lines hidden t.offset 0 (words_of (take t.length code))
summary_view hidden (refused n line) code = refusal_line n line

-- a text of code stands in the buffer, and no text of at most 65,536 bytes of code is longer than this
abbrev pub Says : (text code out : List ℕ) → Result ℕ TooLong → (after : List ℕ) → Type 0
Says text code out r after = Puts text 0 out r after × (length code ≤ 65536 → length text ≤ 475136)
