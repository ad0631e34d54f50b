-- The routine over lent memory: lines, frames, constants and finishing, one after the other.
-- That this is `Routine`'s answer and buffer is proved.
use Rattle.std.specs.Prelude.{true, false, cond, List, [], ◌∷◌, ◌++◌, ℕ, suc, ltb, leb, length, drop, replicate}
use Rattle.refusal.specs.Answer.{Answer, accepted, refused}
use Rattle.refusal.specs.Number.{number_of}
use Rattle.refusal.specs.declared.Refusal.TheVariants as Refusal
use Rattle.ast.specs.Constant.{constant_limit}
use Rattle.ast.specs.declared.Head.{Head}
use Rattle.ast.specs.declared.Constant.{Constant}
use Rattle.text.specs.Lines.{lines_of}
use Rattle.form.specs.Grammar.{said}
use Rattle.deck.specs.Judge.{Content, line_judged}
use Rattle.deck.specs.Judge as Deck
use Rattle.assembler.specs.Bytes.{room}
use Rattle.assembler.specs.Constant.{constant_items, constant_fault}
use Rattle.assembler.specs.State.{State, Outcome}
use Rattle.assembler.specs.Put.{put}
use Rattle.finish.specs.Finish.{finish}
use Rattle.orders.specs.Emitted.{emitted_in}
use Rattle.frame_code.specs.Items.{prologue, epilogue, saves, reloads}
use Rattle.frame_code.specs.Fault.{prologue_fault, epilogue_fault}
use Rattle.call.specs.Layout.{padding}
use Rattle.routine.specs.Routine.{Summary}

-- what the routine answers, and the state it leaves
pub record RunOutcome : Type 0 where
  pub answer : Answer Summary
  pub state : State

abbrev pub refused_at : (number line : ℕ) → State → RunOutcome
refused_at n line s = record { answer = refused n line; state = s }

-- a refusal gets its line; else what follows
abbrev pub on_to : Answer (Unit {0}) → (line : ℕ) → State → (State → RunOutcome) → RunOutcome
on_to (accepted u) line s f = f s
on_to (refused n place) line s f = refused_at n line s

abbrev pub next : Outcome → (line : ℕ) → (State → RunOutcome) → RunOutcome
next o line f = on_to o.answer line o.state f

-- ---- behind the body, at the last line

-- finishing's refusal has its jump's line, the tag; `at` is where constants start
abbrev pub finish_outcome : Answer (Unit {0}) → (tag : ℕ) → Head → (at constants : ℕ) → State → RunOutcome
finish_outcome (accepted u) tag H at n s =
    record {
      answer = accepted (record { length = s.asm.len; offset = at; constants = n; jumps = s.asm.jumps; frame = H.frame });
      state = s;
    }
finish_outcome (refused n place) tag H at k s = refused_at n tag s

abbrev pub finish_run : Head → (at constants : ℕ) → State → RunOutcome
finish_run H at n s = finish_outcome (finish s).answer (finish s).tag H at n (finish s).state

-- constants from number k on
unfoldable pub constants_run : (line : ℕ) → (k : ℕ) → List Constant → State → (State → RunOutcome) → RunOutcome
constants_run line k [] s f = f s
constants_run line k (c ∷ cs) s f =
    next (put 0 (constant_fault k) (constant_items k c) s) line (λ (t : State). constants_run line (suc k) cs t f)

-- behind the nop: the constants, then finishing
abbrev pub constants_then : Head → (line : ℕ) → List Constant → State → RunOutcome
constants_then H line cs v = constants_run line 0 cs v (finish_run H v.asm.len (length cs))

-- behind the epilogue: the nop, where there is one
abbrev pub padding_then : Head → (line : ℕ) → List Constant → State → RunOutcome
padding_then H line cs u = next (put 0 0 (padding u.asm.len (length cs)) u) line (constants_then H line cs)

unfoldable pub leave_run : Head → (line : ℕ) → List Constant → State → RunOutcome
leave_run H line cs s =
    next (put 0 0 (reloads H.mask) s) line
    (λ (t : State). next (put line (epilogue_fault H) (epilogue H) t) line
    (padding_then H line cs))

-- ---- the body

-- "at most 1,008 constants": one more than k; it is placed at the end
abbrev pub constant_run : (k : ℕ) → State → Outcome
constant_run k s =
    cond (ltb k constant_limit)
    (record { answer = accepted tt; state = s })
    (record { answer = refused (number_of Refusal.Count) 0; state = s })

-- what a line behind line 1 says
abbrev pub says : (line : List ℕ) → Answer Content
says t = line_judged false (said t)

-- a line by what it says, behind k constants
abbrev pub line_run : Head → (line k : ℕ) → Answer Content → State → Outcome
line_run H line k (refused n place) s = record { answer = refused n place; state = s }
line_run H line k (accepted (Deck.head h)) s = record { answer = refused (number_of Refusal.Line) 0; state = s }
line_run H line k (accepted (Deck.order o)) s = emitted_in H line o s
line_run H line k (accepted (Deck.constant c)) s = constant_run k s

-- the constant that a line says
abbrev pub waiting : Answer Content → List Constant
waiting (refused n place) = []
waiting (accepted (Deck.head h)) = []
waiting (accepted (Deck.order o)) = []
waiting (accepted (Deck.constant c)) = c ∷ []

-- the lines behind line n, with the constants so far
unfoldable pub lines_run : Head → (n : ℕ) → List Constant → List (List ℕ) → State → RunOutcome
lines_run H n cs [] s = leave_run H n cs s
lines_run H n cs (t ∷ ts) s =
    next (line_run H (suc n) (length cs) (says t) s) (suc n) (lines_run H (suc n) (cs ++ waiting (says t)) ts)

-- ---- line 1

unfoldable pub enter_run : Head → State → (State → RunOutcome) → RunOutcome
enter_run H s f =
    next (put 1 (prologue_fault H) (prologue H) s) 1 (λ (t : State). next (put 0 0 (saves H.mask) t) 1 f)

abbrev pub head_run : Answer Content → List (List ℕ) → State → RunOutcome
head_run (refused k place) ts s = refused_at k 1 s
head_run (accepted (Deck.head h)) ts s = enter_run h s (lines_run h 1 [] ts)
head_run (accepted (Deck.order o)) ts s = refused_at (number_of Refusal.Line) 1 s
head_run (accepted (Deck.constant c)) ts s = refused_at (number_of Refusal.Line) 1 s

abbrev pub first_run : List (List ℕ) → State → RunOutcome
first_run [] s = refused_at (number_of Refusal.Line) 1 s
first_run (t ∷ ts) s = head_run (line_judged true (said t)) ts s

unfoldable pub file_run : (file : List ℕ) → State → RunOutcome
file_run file s = cond (leb (length file) 65536) (first_run (lines_of file) s) (refused_at (number_of Refusal.Full) 1 s)

-- ---- the lent memory

-- zeros in the room; bytes behind it as they were
unfoldable pub cleared : List ℕ → List ℕ
cleared buf = replicate (room (length buf)) 0 ++ drop (room (length buf)) buf

-- an empty record, no label set, a cleared buffer
abbrev pub fresh : (jumps buf : List ℕ) → State
fresh js b =
    record { asm = record { len = 0; jumps = 0; closed = false }; labels = replicate 2039 0; jumps = js; buf = cleared b }

abbrev pub with_buf : List ℕ → State → State
with_buf b s = record { asm = s.asm; labels = s.labels; jumps = s.jumps; buf = b }

-- a refused routine leaves zeros
abbrev pub blanked : Answer Summary → State → RunOutcome
blanked (accepted t) s = record { answer = accepted t; state = s }
blanked (refused n line) s = record { answer = refused n line; state = with_buf (cleared s.buf) s }

abbrev pub whole_run : (file : List ℕ) → State → RunOutcome
whole_run file s = blanked (file_run file s).answer (file_run file s).state

unfoldable pub run : (file jumps buf : List ℕ) → RunOutcome
run file js b = whole_run file (fresh js b)
