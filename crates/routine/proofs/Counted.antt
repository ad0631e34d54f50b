-- The numbers of jumps that a routine leaves add up to its jump count: all that it does is placing and finishing. Assumes nothing.
use mathlib.Core.Path.{◌≡◌}
use mathlib.Core.Bool.{Bool, true, false, cond}
use mathlib.Core.List.{List, [], ◌∷◌, ◌++◌}
use Prim.Native.Nat.{ℕ, suc}
use lib.Dec.{ltb, leb}
use lib.ListN.{length}
use Rattle.refusal.specs.Answer.{Answer, accepted, refused}
use Rattle.ast.specs.declared.Head.{Head}
use Rattle.ast.specs.declared.Constant.{Constant}
use Rattle.text.specs.Lines.{lines_of}
use Rattle.form.specs.Grammar.{said}
use Rattle.deck.specs.Judge.{Content, line_judged}
use Rattle.deck.specs.Judge as Deck
use Rattle.assembler.specs.State.{State, Outcome}
use Rattle.assembler.specs.Put.{put}
use Rattle.assembler.specs.Constant.{constant_items, constant_fault}
use Rattle.frame_code.specs.Items.{prologue, epilogue, saves, reloads}
use Rattle.frame_code.specs.Fault.{prologue_fault, epilogue_fault}
use Rattle.call.specs.Layout.{padding}
use Rattle.finish.specs.Finish.{finish}
use Rattle.finish.specs.Counted.{total, Since, start, placing, finishing}
use Rattle.finish.proofs.Counted.{adds}
use Rattle.routine.specs.Routine.{Summary}
use Rattle.routine.specs.Run.{RunOutcome, refused_at, on_to, next, finish_outcome, finish_run, constants_run, constants_then, padding_then, leave_run, says, line_run, waiting, lines_run, enter_run, head_run, first_run, file_run, cleared, fresh, blanked, run}
use Rattle.routine.specs.Counted.{RunAdds}

-- what follows on a state keeps it one
abbrev Keeps : (State → RunOutcome) → Type 0
Keeps f = (t : State) → Since t → Since (f t).state

next_since : (o : Outcome) (line : ℕ) (f : State → RunOutcome) → Since o.state → Keeps f → Since (next o line f).state
next_since o line f h k = by o.answer
  where
    by : (a : Answer (Unit {0})) → Since (on_to a line o.state f).state
    by (accepted u) = k o.state h
    by (refused n place) = h

finish_since : (H : Head) (at n : ℕ) → Keeps (finish_run H at n)
finish_since H at n s h = by (finish s).answer
  where
    by : (a : Answer (Unit {0})) → Since (finish_outcome a (finish s).tag H at n (finish s).state).state
    by (accepted u) = finishing h
    by (refused k place) = finishing h

constants_since : (line k : ℕ) (cs : List Constant) (s : State) (f : State → RunOutcome) → Since s → Keeps f → Since (constants_run line k cs s f).state
unfolding constants_run
constants_since line k [] s f h g = g s h
constants_since line k (c ∷ cs) s f h g = next_since (put 0 (constant_fault k) (constant_items k c) s) line (λ (t : State). constants_run line (suc k) cs t f) (placing h 0 (constant_fault k) (constant_items k c)) (λ t i. constants_since line (suc k) cs t f i g)

padding_since : (H : Head) (line : ℕ) (cs : List Constant) → Keeps (padding_then H line cs)
padding_since H line cs u h =
    next_since (put 0 0 (padding u.asm.len (length cs)) u) line (constants_then H line cs) (placing h 0 0 (padding u.asm.len (length cs)))
    (λ v i. constants_since line 0 cs v (finish_run H v.asm.len (length cs)) i (finish_since H v.asm.len (length cs)))

leave_since : (H : Head) (line : ℕ) (cs : List Constant) → Keeps (leave_run H line cs)
unfolding leave_run
leave_since H line cs s h =
    next_since (put 0 0 (reloads H.mask) s) line (λ (t : State). next (put line (epilogue_fault H) (epilogue H) t) line (padding_then H line cs)) (placing h 0 0 (reloads H.mask))
    (λ t i. next_since (put line (epilogue_fault H) (epilogue H) t) line (padding_then H line cs) (placing i line (epilogue_fault H) (epilogue H)) (padding_since H line cs))

line_since : (H : Head) (line k : ℕ) (x : Answer Content) (s : State) → Since s → Since (line_run H line k x s).state
line_since H line k (refused n place) s h = h
line_since H line k (accepted (Deck.head a)) s h = h
line_since H line k (accepted (Deck.order o)) s h = placing h line _ _
line_since H line k (accepted (Deck.constant c)) s h = by (ltb k 1008)
  where
    by : (t : Bool) → Since (cond {A = Outcome} t (record { answer = accepted tt; state = s }) (record { answer = refused 9 0; state = s })).state
    by true = h
    by false = h

lines_since : (H : Head) (n : ℕ) (cs : List Constant) (ts : List (List ℕ)) → Keeps (lines_run H n cs ts)
unfolding lines_run
lines_since H n cs [] s h = leave_since H n cs s h
lines_since H n cs (t ∷ ts) s h =
    next_since (line_run H (suc n) (length cs) (says t) s) (suc n) (lines_run H (suc n) (cs ++ waiting (says t)) ts)
    (line_since H (suc n) (length cs) (says t) s h) (lines_since H (suc n) (cs ++ waiting (says t)) ts)

enter_since : (H : Head) (s : State) (f : State → RunOutcome) → Since s → Keeps f → Since (enter_run H s f).state
unfolding enter_run
enter_since H s f h g =
    next_since (put 1 (prologue_fault H) (prologue H) s) 1 (λ (t : State). next (put 0 0 (saves H.mask) t) 1 f) (placing h 1 (prologue_fault H) (prologue H))
    (λ t i. next_since (put 0 0 (saves H.mask) t) 1 f (placing i 0 0 (saves H.mask)) g)

head_since : (x : Answer Content) (ts : List (List ℕ)) → Keeps (head_run x ts)
head_since (refused k place) ts s h = h
head_since (accepted (Deck.head a)) ts s h = enter_since a s (lines_run a 1 [] ts) h (lines_since a 1 [] ts)
head_since (accepted (Deck.order o)) ts s h = h
head_since (accepted (Deck.constant c)) ts s h = h

first_since : (ts : List (List ℕ)) → Keeps (first_run ts)
first_since [] s h = h
first_since (t ∷ ts) s h = head_since (line_judged true (said t)) ts s h

file_since : (file : List ℕ) → Keeps (file_run file)
unfolding file_run
file_since file s h = by (leb (length file) 65536)
  where
    by : (t : Bool) → Since (cond t (first_run (lines_of file) s) (refused_at 7 1 s)).state
    by true = first_since (lines_of file) s h
    by false = h

-- a cleared buffer doesn't matter
blank_adds : (a : Answer Summary) (s : State) → total s.labels ≡ s.asm.jumps → total (blanked a s).state.labels ≡ (blanked a s).state.asm.jumps
blank_adds (accepted t) s e = e
blank_adds (refused n line) s e = e

pub run_adds : RunAdds
unfolding run
run_adds file js b =
    let m = file_run file (fresh js b) in
    blank_adds m.answer m.state (adds m.state (file_since file (fresh js b) (start js (cleared b))))
