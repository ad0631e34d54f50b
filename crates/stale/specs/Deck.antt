-- What `decklabels` prints of a deck file (document 02, point 2, "a maintainer can list"): its stale labels, and the lines that set them.
use Rattle.std.specs.Prelude.{Bool, not, ◌&&◌, cond, List, [], ◌∷◌, ◌++◌, ℕ, ltb}
use Rattle.std.proofs.Math.Option.{get_or}
use Rattle.base.specs.Tests.{member}
use Rattle.refusal.specs.Answer.{Answer, accepted, refused}
use Rattle.text.specs.Digits.{decimal}
use Rattle.print.specs.Text.{refusal_line}
use Rattle.assembler.specs.Limit.{label_limit}
use Rattle.assembler.specs.Item.{Item}
use Rattle.assembler.specs.Put.{targets, labels}
use Rattle.reading.specs.Program.{Program, label_line}
use Rattle.call.specs.Layout.{items}
use Rattle.routine.specs.Routine.{program_of}
use Rattle.unused.specs.Unused.{passing}

-- the items set label l, and none of their jumps goes to it
abbrev pub unused_by : List Item → ℕ → Bool
unused_by is l = member l (labels is) && not (member l (targets is))

-- of a program's labels: its lines', its constants' and its frames'
abbrev pub unused_of : Program → List ℕ
unused_of p = passing (unused_by (items p)) 0 label_limit

-- ---- as text

-- a deck file's own labels are below this
abbrev pub own_limit : ℕ
own_limit = 1024

-- the line that sets a label; line 1 is the head, so the first of the lines is line 2
abbrev pub line_of : Program → ℕ → ℕ
line_of p l = get_or (label_line l 2 p.lines) 0

-- label and line, a comma (44) between, and byte 10
unfoldable pub label_text : (label line : ℕ) → List ℕ
label_text l n = decimal l ++ (44 ∷ (decimal n ++ (10 ∷ [])))

-- nothing of a label that isn't the file's own
abbrev pub own_text : (line : ℕ → ℕ) → (label : ℕ) → List ℕ
own_text line l = cond (ltb l own_limit) (label_text l (line l)) []

unfoldable pub labels_text : (line : ℕ → ℕ) → List ℕ → List ℕ
labels_text line [] = []
labels_text line (l ∷ ls) = own_text line l ++ labels_text line ls

-- the lines of an accepted program's stale labels; else the refusal, as `deckwords` prints it
abbrev pub program_labels : Answer Program → List ℕ
program_labels (accepted p) = labels_text (line_of p) (unused_of p)
program_labels (refused n line) = refusal_line n line

-- of a file, with the buffer at its full size
unfoldable pub deck_labels : (file : List ℕ) → List ℕ
deck_labels file = program_labels (program_of 65536 file)
