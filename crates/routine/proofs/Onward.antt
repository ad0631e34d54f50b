-- What follows an answer, part by part of the run: a refusal ends it at its line, else the state is handed on. Assumes nothing.
use mathlib.Core.Path.{◌≡◌, refl, sym, ◌∙◌}
use mathlib.Core.List.{List, ◌∷◌}
use Prim.Native.Nat.{ℕ, ◌+◌}
use native.Mathlib.Numerals.{add-one}
use native.Mathlib.Omega.{arith}
use lib.ListN.{length}
use Rattle.refusal.specs.Number.{number_of}
use Rattle.refusal.specs.declared.Refusal.{Refusal}
use Rattle.ast.specs.declared.Head.{Head}
use Rattle.ast.specs.declared.Constant.{Constant}
use Rattle.assembler.specs.Constant.{constant_items, constant_fault}
use Rattle.assembler.specs.State.{State, Outcome, state, emit_answer}
use Rattle.assembler.specs.Put.{put}
use Rattle.finish.specs.Finish.{finish, finish_outcome}
use Rattle.finish.specs.declared.Unfinished.{Unfinished}
use Rattle.assembler.specs.declared.Asm.{Asm}
use Rattle.refusal.specs.declared.Refused.{Refused}
use Rattle.refusal.specs.Answer.{accepted}
use Rattle.frame_code.specs.Items.{prologue, epilogue, saves, reloads}
use Rattle.frame_code.specs.Fault.{prologue_fault, epilogue_fault}
use Rattle.call.specs.Layout.{padding}
use Rattle.routine.specs.Inner.Places.{Placed, on_line}
use Rattle.routine.specs.Run.{RunOutcome, refused_at, next, enter_run, constants_run, constants_then, padding_then, finish_run, leave_run}
use Rattle.std.specs.Prelude.{Result, Ok, Err}

-- the routine's refusal
abbrev pub no : Refusal → ℕ → State → RunOutcome
no r line s = refused_at (number_of r) line s

-- what a part answers, with the state that it leaves
abbrev pub told : Result (Unit {0}) Refused → State → Outcome
told r t = record { answer = emit_answer r; state = t }

-- ---- line 1

module _ (H : Head) (s t : State) (f : State → RunOutcome) where
  pub enter_stops : (r : Result (Unit {0}) Refused) (e : Refused) → r ≡ Err e → told (Err e) t ≡ put 1 (prologue_fault H) (prologue H) s → enter_run H s f ≡ next (told r t) 1 f
  unfolding enter_run
  enter_stops r e q h = rw (q, ← h)

  pub enter_goes : told (Ok tt) t ≡ put 1 (prologue_fault H) (prologue H) s → (o : Outcome) → o ≡ put 0 0 (saves H.mask) t → enter_run H s f ≡ next o 1 f
  unfolding enter_run
  enter_goes h o g = rw (g, ← h)

-- ---- constants

module _ (line k : ℕ) (l cs : List Constant) (c : Constant) (i : l ≡ c ∷ cs) (s t : State) (f : State → RunOutcome) where
  pub constants_stop : (r : Result (Unit {0}) Refused) (e : Refused) → r ≡ Err e → told (Err e) t ≡ put 0 (constant_fault k) (constant_items k c) s → constants_run line k l s f ≡ next (told r t) line f
  unfolding constants_run
  constants_stop r e q h = rw (i, q, ← h)

  pub constants_go : told (Ok tt) t ≡ put 0 (constant_fault k) (constant_items k c) s → constants_run line k l s f ≡ constants_run line (k + 1) cs t f
  unfolding constants_run
  constants_go h = rw (i, ← h, add-one k)

-- ---- finishing

module _ (H : Head) (at n : ℕ) (s : State) (a : Asm) (ls js b : List ℕ) where
  pub close_stops : (e : Unfinished) → finish_outcome (Err e) a ls js b ≡ finish s → no e.refused.why e.tag (state a ls js b) ≡ finish_run H at n s
  close_stops e h = rw (← h)

  pub close_goes : finish_outcome (Ok tt) a ls js b ≡ finish s
      → ◌≡◌ {A = RunOutcome} (record { answer = accepted (record { length = a.len; offset = at; constants = n; jumps = a.jumps; frame = H.frame }); state = state a ls js b }) (finish_run H at n s)
  close_goes h = rw (← h)

-- ---- behind the body

module _ (H : Head) (line : ℕ) (cs : List Constant) (s t : State) where
  pub reloads_stop : (r : Result (Unit {0}) Refused) (e : Refused) → r ≡ Err e → told (Err e) t ≡ put 0 0 (reloads H.mask) s → leave_run H line cs s ≡ next (told r t) line (padding_then H line cs)
  unfolding leave_run
  reloads_stop r e q h = rw (q, ← h)

  pub epilogue_then : told (Ok tt) t ≡ put 0 0 (reloads H.mask) s → (o : Outcome) → o ≡ put line (epilogue_fault H) (epilogue H) t → leave_run H line cs s ≡ next o line (padding_then H line cs)
  unfolding leave_run
  epilogue_then h o g = rw (g, ← h)

pub padding_goes : (H : Head) (line : ℕ) (cs : List Constant) (s : State) (n : ℕ) → length cs ≡ n → (o : Outcome) → o ≡ put 0 0 (padding s.asm.len n) s → padding_then H line cs s ≡ next o line (constants_then H line cs)
padding_goes H line cs s n k o e = rw (e, ← k)

-- ---- an answer that got its line

module _ (r q : Result (Unit {0}) Refused) (line : ℕ) (h : q ≡ on_line r line) where
  pub is_done : (u : Unit {0}) → q ≡ Ok u → r ≡ Ok tt
  is_done u e = by r (sym h ∙ e)
    where
      by : (x : Result (Unit {0}) Refused) → on_line x line ≡ Ok u → x ≡ Ok tt
      by (Ok v) i = refl
      by (Err x) i = absurd (let z : ◌≡◌ {A = ℕ} 0 1 = cc in omega arith)

  pub goes_on : (u : Unit {0}) → q ≡ Ok u → (t : State) (f : State → RunOutcome) → next (told r t) line f ≡ f t
  goes_on u e t f = rw (is_done u e)

  pub ends_there : (e : Refused) → q ≡ Err e → (t : State) (f : State → RunOutcome) → refused_at (number_of e.why) e.place t ≡ next (told r t) line f
  ends_there e i t f = by r (sym h ∙ i)
    where
      by : (x : Result (Unit {0}) Refused) → on_line x line ≡ Err e → refused_at (number_of e.why) e.place t ≡ next (told x t) line f
      by (Ok v) i = absurd (let z : ◌≡◌ {A = ℕ} 0 1 = cc in omega arith)
      by (Err x) i = let z : record { why = x.why; place = line } ≡ e = cc in rw (← z)

-- behind the body, part by part
module _ (H : Head) (line : ℕ) (cs : List Constant) (s t : State) (r q : Result (Unit {0}) Refused) (a : leave_run H line cs s ≡ next (told r t) line (padding_then H line cs)) (h : q ≡ on_line r line) (u : Unit {0}) (o : q ≡ Ok u)
    (n : ℕ) (k : length cs ≡ n) (t' : State) (r' q' : Result (Unit {0}) Refused) (b : told r' t' ≡ put 0 0 (padding t.asm.len n) t) (h' : q' ≡ on_line r' line) where
  behind : leave_run H line cs s ≡ next (told r' t') line (constants_then H line cs)
  behind = a ∙ goes_on r q line h u o t _ ∙ padding_goes H line cs t n k _ b

  pub no_padding : (e : Refused) → q' ≡ Err e → refused_at (number_of e.why) e.place t' ≡ leave_run H line cs s
  no_padding e i = ends_there r' q' line h' e i t' _ ∙ sym behind

  module _ (v : Unit {0}) (o' : q' ≡ Ok v) (w : State) (r'' q'' : Result (Unit {0}) Refused) (d : Placed cs t' (told r'' w)) (h'' : q'' ≡ on_line r'' line) where
    left : leave_run H line cs s ≡ next (told r'' w) line (finish_run H t'.asm.len (length cs))
    left = behind ∙ goes_on r' q' line h' v o' t' _ ∙ d line _

    pub no_constants : (e : Refused) → q'' ≡ Err e → refused_at (number_of e.why) e.place w ≡ leave_run H line cs s
    no_constants e i = ends_there r'' q'' line h'' e i w _ ∙ sym left

    pub all_left : (x : Unit {0}) → q'' ≡ Ok x → (y : RunOutcome) → y ≡ finish_run H t'.asm.len n w → y ≡ leave_run H line cs s
    all_left x e y g = g ∙ sym (left ∙ goes_on r'' q'' line h'' x e w _ ∙ rw k)
