-- What private functions promise: constants by their lines' places (the byte of the file where a line starts), and parts of the run.
use Rattle.std.specs.Prelude.{◌≡◌, Bool, true, false, List, [], ◌∷◌, map, ℕ, drop, Result, Ok, Err}
use Rattle.refusal.specs.Answer.{Answer, accepted, refused}
use Rattle.refusal.specs.declared.Refused.{Refused}
use Rattle.ast.specs.declared.Head.{Head}
use Rattle.ast.specs.declared.Constant.{Constant}
use Rattle.ast.specs.declared.Constant.TheVariants.{Bits}
use Rattle.text.specs.Lines.{lines_of}
use Rattle.deck.specs.Judge.{Content}
use Rattle.deck.specs.Judge as Deck
use Rattle.assembler.specs.State.{State, Outcome, before}
use Rattle.assembler.specs.declared.Assembler.{Assembler}
use Rattle.assembler.specs.Put.{put}
use Rattle.routine.specs.Answer.{routine_answer}
use Rattle.routine.specs.declared.Outline.{Outline}
use Rattle.routine.specs.Run.{RunOutcome, next, constants_run, padding_then, leave_run, enter_run, says, waiting}

-- the first constant, 0 where there is none
abbrev pub first_said : List Constant → Constant
first_said [] = Bits 0
first_said (c ∷ cs) = c

abbrev pub next_constant : List (List ℕ) → Constant
next_constant [] = Bits 0
next_constant (t ∷ ts) = first_said (waiting (says t))

-- the line says a constant
abbrev pub is_constant : Answer Content → Bool
is_constant (refused n place) = false
is_constant (accepted (Deck.head h)) = false
is_constant (accepted (Deck.order o)) = false
is_constant (accepted (Deck.constant c)) = true

unfoldable pub constant_at : (file : List ℕ) → (place : ℕ) → Constant
constant_at file place = next_constant (lines_of (drop place file))

unfoldable pub constants_at : (file places : List ℕ) → List Constant
constants_at file places = map (constant_at file) places

-- ---- parts of the run, with their outcome

-- the refusal gets its line
abbrev pub on_line : Result (Unit {0}) Refused → (line : ℕ) → Result (Unit {0}) Refused
on_line (Ok u) line = Ok u
on_line (Err e) line = Err (record { why = e.why; place = line })

-- what a part answers of the whole, and the assembler that it leaves
abbrev pub run_left : Result Outline Refused → Assembler → RunOutcome
run_left r a = record { answer = routine_answer r; state = before a }

-- what a line answers, and whether it waits
abbrev pub done : Result Bool Refused → Result (Unit {0}) Refused
done (Ok b) = Ok tt
done (Err e) = Err e

abbrev pub Waits : Result Bool Refused → Bool → Type 0
Waits (Ok b) c = b ≡ c
Waits (Err e) c = Unit {0}

-- constants from number 0 on are placed
abbrev pub Placed : List Constant → State → Outcome → Type 0
Placed cs s o = (line : ℕ) (f : State → RunOutcome) → constants_run line 0 cs s f ≡ next o line f

-- reloads and epilogue, at the last line
abbrev pub Unwound : Head → (line : ℕ) → State → Outcome → Type 0
Unwound H line s o = (cs : List Constant) → leave_run H line cs s ≡ next o line (padding_then H line cs)

-- the record is open, and one that orders make: to place nothing is accepted, and changes nothing
abbrev pub Open : State → Type 0
Open s = put 0 0 [] s ≡ record { answer = accepted tt; state = s }

-- prologue and saves, at line 1
abbrev pub Entered : Head → State → Outcome → Type 0
Entered H s o = (f : State → RunOutcome) → enter_run H s f ≡ next o 1 f
