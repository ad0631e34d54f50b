-- What a deck file is taken as: a program, or its refusal by number and line
-- (document 01, "Added: the routine", "Numbers of refusal", "The deck file").
use Rattle.std.specs.Prelude.{◌≡◌, Bool, true, false, not, ◌&&◌, cond, List, [], ◌∷◌, ◌++◌, ℕ, zero, suc, ◌+◌, ◌-◌, ltb, leb, length, drop, replicate}
use Rattle.std.proofs.Math.Option.{Option, some, none}
use Rattle.std.proofs.Math.IntN.{sub_ℕ}
use Rattle.base.specs.Tests.{any}
use Rattle.ast.specs.Uses.{index_holds, saves_hold}
use Rattle.ast.specs.Constant.{constant_limit}
use Rattle.isa.specs.Instr.{holds, offset}
use Rattle.refusal.specs.Answer.{Answer, accepted, refused}
use Rattle.refusal.specs.Number.{number_of}
use Rattle.refusal.specs.declared.Refusal.TheVariants as Refusal
use Rattle.ast.specs.declared.Frame.{Frame}
use Rattle.ast.specs.declared.Head.{Head}
use Rattle.ast.specs.declared.Order.{Order}
use Rattle.text.specs.Lines.{lines_of}
use Rattle.form.specs.Grammar.{said}
use Rattle.deck.specs.Judge.{Content, line_judged}
use Rattle.deck.specs.Judge as Deck
use Rattle.reading.specs.Line.{Line, order, constant}
use Rattle.assembler.specs.Item.{Item}
use Rattle.assembler.specs.Bytes.{bytes, room}
use Rattle.assembler.specs.Memory.{Jump}
use Rattle.assembler.specs.Put.{jumps, labels}
use Rattle.base.specs.Tests.{any, member}
use Rattle.assembler.specs.Resolved.{jumps_in, place_in}
use Rattle.orders.specs.Code.{code, line_code}
use Rattle.reading.specs.Program.{Program, constants}
use Rattle.call.specs.Layout.{span, body, entry, exit, data_items, items, constants_offset, code_length, routine_words}

-- a refusal, or what is made of what was accepted
abbrev pub then : {A B : Type 0} → Answer A → (A → Answer B) → Answer B
then (accepted a) f = f a
then (refused n place) f = refused n place

-- refused at this line unless the number is 0
abbrev pub unless : {A : Type 0} → (number line : ℕ) → A → Answer A
unless zero line a = accepted a
unless (suc n) line a = refused (suc n) line

-- ---- lines in order

-- lines are counted from 1: the line that comes next, and the one read last
abbrev pub next_line : Program → ℕ
next_line p = suc (suc (length p.lines))

abbrev pub last_line : Program → ℕ
last_line p = suc (length p.lines)

abbrev pub with_line : Program → Line → Program
with_line p l = record { head = p.head; lines = p.lines ++ (l ∷ []) }

-- one of them is among the others
abbrev pub shared : List ℕ → List ℕ → Bool
shared ls ms = any (λ l. member l ms) ls

-- Items behind others, in a buffer of `size` bytes: 4, a label is set already; 7, the words or the jumps don't fit.
abbrev pub room_number : (size : ℕ) → (before is : List Item) → ℕ
room_number size before is =
    cond (shared (labels is) (labels before)) (number_of Refusal.Twice)
    (cond (leb (span before + span is) (room size) && leb (jumps before + jumps is) 4096) 0 (number_of Refusal.Full))

-- An order's own words come behind all that stands before them: 9, 11, 4, 7.
abbrev pub order_number : (size : ℕ) → Program → Order → ℕ
order_number size p o =
    cond (index_holds p.head o)
    (cond (saves_hold p.head.mask o) (room_number size (entry p ++ body p.lines) (code o)) (number_of Refusal.Unsaved))
    (number_of Refusal.Count)

-- "at most 1,008 constants"
abbrev pub constant_number : Program → ℕ
constant_number p = cond (ltb (length (constants p.lines)) constant_limit) 0 (number_of Refusal.Count)

-- the answer to a line's text, at its own line
abbrev pub placed_at : {A : Type 0} → (line : ℕ) → Answer A → Answer A
placed_at line (accepted a) = accepted a
placed_at line (refused n place) = refused n line

abbrev pub as_line : (size : ℕ) → Program → Content → Answer Line
as_line size p (Deck.head h) = refused (number_of Refusal.Line) (next_line p)
as_line size p (Deck.order o) = unless (order_number size p o) (next_line p) (order o)
as_line size p (Deck.constant c) = unless (constant_number p) (next_line p) (constant c)

-- one line more
unfoldable pub line_read : (size : ℕ) → Program → List ℕ → Answer Line
line_read size p text = then (placed_at (next_line p) (line_judged false (said text))) (as_line size p)

-- "A routine's lines are taken in order and the first refused one decides"
unfoldable pub lines_read : (size : ℕ) → Program → List (List ℕ) → Answer Program
lines_read size p [] = accepted p
lines_read size p (t ∷ ts) = then (line_read size p t) (λ l. lines_read size (with_line p l) ts)

-- line 1, alone
abbrev pub only : Head → Program
only h = record { head = h; lines = [] }

abbrev pub as_head : (size : ℕ) → Content → Answer Program
as_head size (Deck.head h) = unless (room_number size [] (entry (only h))) 1 (only h)
as_head size (Deck.order o) = refused (number_of Refusal.Line) 1
as_head size (Deck.constant c) = refused (number_of Refusal.Line) 1

unfoldable pub head_read : (size : ℕ) → List ℕ → Answer Program
head_read size text = then (placed_at 1 (line_judged true (said text))) (as_head size)

-- "an empty file is 12 at line 1"
abbrev pub file_read : (size : ℕ) → List (List ℕ) → Answer Program
file_read size [] = refused (number_of Refusal.Line) 1
file_read size (t ∷ ts) = then (head_read size t) (λ p. lines_read size p ts)

-- ---- behind the body

-- "Code after the body that doesn't fit is placed at the last line"
unfoldable pub closed_off : (size : ℕ) → Program → Answer Program
closed_off size p =
    unless (room_number size (entry p ++ body p.lines) (exit p ++ data_items p)) (last_line p) p

-- ---- finishing, "placed at the jump's line"

-- the lines of the jumps: line 1 for the prologue's, an order's own, the last for the epilogue's
unfoldable pub body_lines : (n : ℕ) → List Line → List ℕ
body_lines n [] = []
body_lines n (l ∷ ls) = replicate (jumps (line_code l)) n ++ body_lines (suc n) ls

abbrev pub jump_lines : Program → List ℕ
jump_lines p =
    replicate (jumps (entry p)) 1 ++ (body_lines 2 p.lines ++ replicate (jumps (exit p)) (last_line p))

-- the line of the first jump that passes the test
unfoldable pub first_line : (Jump → Bool) → List Jump → List ℕ → Option ℕ
first_line t [] ns = none
first_line t (j ∷ js) [] = none
first_line t (j ∷ js) (n ∷ ns) = cond (t j) (some n) (first_line t js ns)

-- 5: its label has no place, since no item sets it
abbrev pub unset : List Item → Jump → Bool
unset is j = not (member j.label (labels is))

-- 6: a `beq` or `bne` beyond B
abbrev pub far : List Item → Jump → Bool
far is j = leb 4 j.kind && not (holds (offset 13 (sub_ℕ (place_in is j.label) j.word)))

abbrev pub refused_at : (number : ℕ) → Option ℕ → Answer Program → Answer Program
refused_at number none a = a
refused_at number (some line) a = refused number line

-- the first with 5, then the first with 6
unfoldable pub finished : Program → Answer Program
finished p =
    refused_at (number_of Refusal.Unset) (first_line (unset (items p)) (jumps_in 0 (items p)) (jump_lines p))
    (refused_at (number_of Refusal.Far) (first_line (far (items p)) (jumps_in 0 (items p)) (jump_lines p))
    (accepted p))

-- ---- the whole

-- "A file too long is refused before all else at line 1"
unfoldable pub program_of : (size : ℕ) → (file : List ℕ) → Answer Program
program_of size file =
    cond (leb (length file) 65536)
    (then (file_read size (lines_of file)) (λ p. then (closed_off size p) finished))
    (refused (number_of Refusal.Full) 1)

-- ---- what the routine tells and leaves

pub record Summary : Type 0 where
  pub length : ℕ
  pub offset : ℕ  -- where constants start: the length where there are none
  pub constants : ℕ
  pub jumps : ℕ
  pub frame : Frame

abbrev pub summary_of : Program → Summary
summary_of p =
    record {
      length = code_length p;
      offset = constants_offset p;
      constants = length (constants p.lines);
      jumps = jumps (items p);
      frame = p.head.frame;
    }

abbrev pub summary_answer : Answer Program → Answer Summary
summary_answer (accepted p) = accepted (summary_of p)
summary_answer (refused n line) = refused n line

-- the code; none where the file is refused
abbrev pub code_bytes : Answer Program → List ℕ
code_bytes (accepted p) = bytes (routine_words p)
code_bytes (refused n line) = []

-- The buffer afterwards: the code, then zeros; bytes behind the room as they were.
unfoldable pub buffer_after : Answer Program → List ℕ → List ℕ
buffer_after a buf =
    code_bytes a ++ (replicate (room (length buf) - length (code_bytes a)) 0 ++ drop (room (length buf)) buf)

-- What the routine promises of a file and a buffer: its answer, and the buffer afterwards.
abbrev pub Promise : (file buf : List ℕ) → (answer : Answer Summary) → (after : List ℕ) → Type 0
Promise file buf answer after =
    (answer ≡ summary_answer (program_of (length buf) file)) × (after ≡ buffer_after (program_of (length buf) file) buf)
