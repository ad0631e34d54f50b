-- Answers as the numbers that a caller in C gets.
use Rattle.std.specs.Prelude.{◌≡◌, List, [], ◌∷◌, ℕ, zero, suc, length, Result, Ok, Err}
use Rattle.refusal.specs.Answer.{Answer, accepted, refused}
use Rattle.ast.specs.declared.Frame.{Frame}
use Rattle.ast.specs.declared.Frame.TheVariants.{Fast, Indirect}
use Rattle.print.specs.Text.{length_in, put_in}
use Rattle.print.specs.declared.TooLong.{TooLong}
use Rattle.routine.specs.Routine.{Summary, program_of, summary_answer, buffer_after}
use Rattle.assembler.specs.State.{Lent}
use Rattle.listing.specs.Listing.{text_of}
use Rattle.listing.specs.declared.View.{View}
use Rattle.listing.specs.declared.View.TheVariants.{Maintainer, Attendant}
use Rattle.routine.specs.Run.{RunOutcome, run}

-- the refusal's number; 0 where the answer is none
abbrev pub number : {A : Type 0} → Answer A → ℕ
number (accepted a) = 0
number (refused n place) = n

abbrev pub place : {A : Type 0} → Answer A → ℕ
place (accepted a) = 0
place (refused n p) = p

abbrev pub frame_number : Frame → ℕ
frame_number Fast = 0
frame_number Indirect = 1

-- number, line, length, the constants' offset and count, jump count, frame; 0 what the answer hasn't
abbrev pub deck_numbers : Answer Summary → List ℕ
deck_numbers (accepted t) = 0 ∷ 0 ∷ t.length ∷ t.offset ∷ t.constants ∷ t.jumps ∷ frame_number t.frame ∷ []
deck_numbers (refused n line) = n ∷ line ∷ 0 ∷ 0 ∷ 0 ∷ 0 ∷ 0 ∷ []

-- What `deck_emit` answers and leaves.
abbrev pub Deck : (file buf : List ℕ) → (answer : ℕ) → (told after : List ℕ) → Type 0
Deck file buf answer told after =
    (answer ≡ number (program_of (length buf) file))
    × (told ≡ deck_numbers (summary_answer (program_of (length buf) file)))
    × (after ≡ buffer_after (program_of (length buf) file) buf)

-- What `deck_emit_in` answers and leaves: what the run makes of the file
abbrev pub RunTold : RunOutcome → (answer : ℕ) → (told labels jumps buf : List ℕ) → Type 0
RunTold m answer told labels jumps buf =
    (answer ≡ number m.answer)
    × (told ≡ deck_numbers m.answer)
    × (labels ≡ m.state.labels)
    × (jumps ≡ m.state.jumps)
    × (buf ≡ m.state.buf)

-- in lent memory
abbrev pub DeckIn : (file : List ℕ) → (answer : ℕ) → (told labels jumps buf : Lent) → Type 0
DeckIn file answer told labels jumps buf =
    RunTold (run file jumps.entry.now buf.entry.now) answer
    told.exit.now labels.exit.now jumps.exit.now buf.exit.now

-- how long a text is that was put; 0 where it was not
abbrev pub text_number : Result ℕ TooLong → ℕ
text_number (Ok n) = n
text_number (Err e) = 0

-- ---- listings

-- What `code_listing` answers and leaves of a listing: its number; its place and the text's length; the text.
abbrev pub CodeTold : (a : Answer (List ℕ)) → (answer : ℕ) → (told out after : List ℕ) → Type 0
CodeTold a answer told out after =
    (answer ≡ number a)
    × (told ≡ place a ∷ text_number (length_in (text_of a) 0 out) ∷ [])
    × (after ≡ put_in (text_of a) 0 out)

-- the refusal's line, the code's length, the text's length; 0 what the answer hasn't
abbrev pub listing_numbers : Answer Summary → (text : ℕ) → List ℕ
listing_numbers (accepted t) text = 0 ∷ t.length ∷ text ∷ []
listing_numbers (refused n line) text = line ∷ 0 ∷ text ∷ []

-- What `deck_listing` and `deck_view` answer and leave of a file, whose text this is.
abbrev pub DeckListed : (file text : List ℕ) → (answer : ℕ) → (told out after : List ℕ) → Type 0
DeckListed file text answer told out after =
    (answer ≡ number (program_of 65536 file))
    × (told ≡ listing_numbers (summary_answer (program_of 65536 file)) (text_number (length_in text 0 out)))
    × (after ≡ put_in text 0 out)

-- every number but 0 is the attendant's view, so that a wrong one hides
abbrev pub view_of : ℕ → View
view_of zero = Maintainer
view_of (suc n) = Attendant
