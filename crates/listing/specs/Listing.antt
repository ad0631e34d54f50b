-- The listing of code and of a deck file (document 02, point 5): what is printed, and what is refused.
use Rattle.std.specs.Prelude.{◌≡◌, ◌&&◌, cond, List, ℕ, ◌*◌, ◌/◌, ◌%◌, eqb, leb, length, Result, Ok, Err}
use Rattle.std.proofs.Math.Option.{Option, some, none}
use Rattle.refusal.specs.Answer.{Answer, accepted, refused}
use Rattle.print.specs.Text.{words_of, refusal_line, Puts}
use Rattle.print.specs.Listing.{listing_lines, foreign_from}
use Rattle.assembler.specs.Bytes.{bytes}
use Rattle.reading.specs.Program.{Program}
use Rattle.call.specs.Layout.{constants_offset, routine_words}
use Rattle.routine.specs.Routine.{program_of}
use Rattle.listing.specs.declared.CodeError.{CodeError}
use Rattle.listing.specs.declared.CodeError.TheVariants.{Offset, Foreign}
use Rattle.listing.specs.declared.CodeListing.{CodeListing}

-- ---- code

-- "with 14, foreign, the first word .. placed at that word's offset"
abbrev pub unless_foreign : (first : Option ℕ) → Answer (List ℕ) → Answer (List ℕ)
unless_foreign (some place) a = refused 14 place
unless_foreign none a = a

-- "or a last word cut short": its place
abbrev pub cut_short : (length : ℕ) → Option ℕ
cut_short n = cond (eqb (n % 4) 0) none (some (n / 4 * 4))

-- "and before that with 2, place 0, a constants' offset past the end or at no multiple of 4"
unfoldable pub listed : (code : List ℕ) → (constants : ℕ) → Answer (List ℕ)
listed code constants =
    cond (leb constants (length code) && eqb (constants % 4) 0)
    (unless_foreign (foreign_from constants 0 (words_of code))
    (unless_foreign (cut_short (length code)) (accepted (listing_lines constants 0 (words_of code)))))
    (refused 2 0)

-- the text, "printing no line of code" in a refusal
abbrev pub text_of : Answer (List ℕ) → List ℕ
text_of (accepted text) = text
text_of (refused n place) = refusal_line n place

-- ---- what a function answers of it, and leaves

-- number and place of each answer
abbrev pub code_answer : Result (Unit {0}) CodeError → (text : List ℕ) → Answer (List ℕ)
code_answer (Ok u) text = accepted text
code_answer (Err Offset) text = refused 2 0
code_answer (Err (Foreign place)) text = refused 14 place

-- the answer is a's, and its text stands in the buffer, whole or not at all
abbrev pub Lists : (a : Answer (List ℕ)) → (buf : List ℕ) → CodeListing → (after : List ℕ) → Type 0
Lists a buf r after = (code_answer r.answer (text_of a) ≡ a) × Puts (text_of a) 0 buf r.text after

-- ---- a deck file

-- the code of a program, its constants "from the offset given by the emitter"; or the routine's refusal
abbrev pub program_listing : Answer Program → List ℕ
program_listing (accepted p) = text_of (listed (bytes (routine_words p)) (constants_offset p))
program_listing (refused n line) = refusal_line n line

-- of a file, with the buffer at its full size
unfoldable pub deck_listing : (file : List ℕ) → List ℕ
deck_listing file = program_listing (program_of 65536 file)
