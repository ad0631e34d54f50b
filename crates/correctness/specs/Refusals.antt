-- What holds of all refused files, and of what the routine leaves (document 01, "Numbers of refusal"). Statements; proved in `proofs`.
use Rattle.std.specs.Prelude.{◌≡◌, cond, List, [], ◌∷◌, ◌++◌, ℕ, ◌%◌, ◌<◌, T, leb, length, drop, replicate}
use Rattle.refusal.specs.Answer.{Answer, refused}
use Rattle.assembler.specs.Bytes.{room}
use Rattle.base.specs.Tests.{member}
use Rattle.text.specs.Lines.{lines_of}
use Rattle.reading.specs.Program.{Program, constants}
use Rattle.call.specs.Layout.{body, constants_from, entry, exit}
use Rattle.routine.specs.Routine.{then, unless, room_number, last_line, file_read, finished, program_of, Summary, Promise}

-- "A file too long is refused before all else at line 1"
abbrev pub TooLong : Type 0
TooLong =
    (size : ℕ) (file : List ℕ)
    → 65536 < length file
    → program_of size file ≡ refused 7 1

-- behind the body, if the nop before constants took no room
abbrev pub closed_without : (size : ℕ) → Program → Answer Program
closed_without size p =
    unless (room_number size (entry p ++ body p.lines) (exit p ++ constants_from 0 (constants p.lines))) (last_line p) p

-- The nop turns no file into a refused one where the room is a multiple of 8, as 65,536 is: the answer is as if it took none.
abbrev pub NopFits : Type 0
NopFits =
    (size : ℕ) (file : List ℕ)
    → room size % 8 ≡ 0
    → program_of size file
    ≡ cond (leb (length file) 65536)
    (then (file_read size (lines_of file)) (λ p. then (closed_without size p) finished))
    (refused 7 1)

-- The numbers that files are refused by. 6, 8 and 10 come from none: a file's only `beq` and `bne` to labels are its frame's, which are
-- near; its record is its own, and open; and no order's base is t0.
abbrev pub numbers : List ℕ
numbers = 1 ∷ 2 ∷ 3 ∷ 4 ∷ 5 ∷ 7 ∷ 9 ∷ 11 ∷ 12 ∷ []

abbrev pub Never : Type 0
Never =
    (size : ℕ) (file : List ℕ) (number line : ℕ)
    → program_of size file ≡ refused number line
    → T (member number numbers)

-- A refused routine leaves zeros, and bytes behind the room as they were.
abbrev pub Zeroed : Type 0
Zeroed =
    (file buf : List ℕ) (number line : ℕ) (after : List ℕ)
    → Promise file buf (refused number line) after
    → after ≡ replicate (room (length buf)) 0 ++ drop (room (length buf)) buf

-- "bytes behind them never change", whatever the answer; and the buffer has the size it had
abbrev pub Behind : Type 0
Behind =
    (file buf : List ℕ) (answer : Answer Summary) (after : List ℕ)
    → Promise file buf answer after
    → (drop (room (length buf)) after ≡ drop (room (length buf)) buf) × (length after ≡ length buf)
