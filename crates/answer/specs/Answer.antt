-- What `deckwords` prints of a deck file (document 01, "The deck file").
use Rattle.std.specs.Prelude.{List, [], ℕ, take}
use Rattle.refusal.specs.Answer.{Answer, accepted, refused}
use Rattle.reading.specs.Program.{Program}
use Rattle.call.specs.Layout.{routine_words}
use Rattle.routine.specs.Routine.{Summary, program_of}
use Rattle.print.specs.Text.{word_lines, code_lines, refusal_line}
use Rattle.print.specs.Reason.{reason_line}

-- The text of the routine's answer; the code is what stands in the buffer.
abbrev pub answer_text : Answer Summary → (code : List ℕ) → List ℕ
answer_text (accepted t) code = code_lines (take t.length code)
answer_text (refused n line) code = refusal_line n line

-- "byte offset (decimal) and word (8 hex digits), or refused,number,line"
abbrev pub program_text : Answer Program → List ℕ
program_text (accepted p) = word_lines 0 (routine_words p)
program_text (refused n line) = refusal_line n line

-- of a file, with the buffer at its full size
unfoldable pub deck_text : (file : List ℕ) → List ℕ
deck_text file = program_text (program_of 65536 file)

-- ---- on standard error

-- a refusal in words; nothing where nothing is refused
abbrev pub reason_of : {A : Type 0} → Answer A → List ℕ
reason_of (accepted a) = []
reason_of (refused n line) = reason_line n line

unfoldable pub deck_reason : (file : List ℕ) → List ℕ
deck_reason file = reason_of (program_of 65536 file)
