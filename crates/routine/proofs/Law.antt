-- The routine's run over lent memory is its plain definition: the answer, and the buffer afterwards. Assumes nothing.
use mathlib.Core.Path.{◌≡◌, refl, sym, ap, subst, ◌∙◌}
use mathlib.Core.Bool.{Bool, true, false, cond}
use mathlib.Core.List.{List, [], ◌∷◌, ◌++◌, append-nil}
use Prim.Native.Nat.{ℕ, zero, suc, ◌+◌, ◌-◌, ◌*◌, ◌≤◌}
use native.Mathlib.Nat.{add-zero}
use native.Mathlib.Omega.{arith}
use lib.Dec.{leb}
use lib.ListN.{length, drop, replicate, length-append, length-replicate, length-drop}
use lib.Seq.{drop-append-le, drop_at}
use Rattle.base.proofs.Bools.{both}
use Rattle.refusal.specs.Answer.{Answer, accepted, refused}
use Rattle.ast.specs.declared.Head.{Head}
use Rattle.text.specs.Lines.{lines_of}
use Rattle.form.specs.Grammar.{said}
use Rattle.deck.specs.Judge.{Content, line_judged}
use Rattle.deck.specs.Judge as Deck
use Rattle.assembler.specs.Bytes.{bytes, room}
use Rattle.assembler.specs.State.{State}
use Rattle.assembler.specs.Put.{jumps, labels, put}
use Rattle.assembler.proofs.Items.{jumps_append}
use Rattle.assembler.proofs.Writes.{written_is, length_bytes}
use Rattle.frame_code.specs.Items.{prologue, saves}
use Rattle.frame_code.specs.Fault.{prologue_fault}
use Rattle.ast.specs.Counts.{prologue_holds, epilogue_holds, result_holds}
use Rattle.finish.proofs.Represents.{Represents}
use Rattle.finish.proofs.All.{fresh_represents}
use Rattle.reading.specs.Program.{Program, constants}
use Rattle.call.specs.Layout.{body, routine_words}
use Rattle.call.proofs.Labels.{Early}
use Rattle.routine.specs.Routine.{then, unless, shared, room_number, only, placed_at, as_head, head_read, lines_read, file_read, program_of, body_lines, summary_answer, buffer_after, Promise}
use Rattle.routine.specs.Run.{RunOutcome, refused_at, next, enter_run, head_run, first_run, file_run, lines_run, cleared, fresh, blanked, run}
use Rattle.routine.proofs.LawRoom.{space_number, room_space}
use Rattle.routine.proofs.LawFit.{fit_append, fit_labelled, prologue_fit, saves_fit, shared_none, prologue_once, entry_early, saves_labels, saves_jumps}
use Rattle.base.proofs.Each.{each_map}
use Rattle.routine.proofs.LawJudged.{Said, line_said}
use Rattle.routine.proofs.LawParts.{Left, Unmade, Agrees, then_then, laid_refuses, put_agrees, part_agrees}
use Rattle.routine.proofs.LawLeave.{Before, tags_so_far}
use Rattle.routine.proofs.LawLines.{Going, ending, lines_agrees}

-- ---- line 1

module _ (b : List ℕ) (H : Head) (g : epilogue_holds H ≡ true) where
  fault_free : prologue_fault H ≡ 0
  fault_free = rw (both (prologue_holds H) (result_holds H H.frame) g).0

  tags_first : ([] ++ replicate (jumps (prologue H)) 1) ++ replicate (jumps (saves H.mask)) 0 ≡ tags_so_far (only H)
  unfolding body_lines
  tags_first =
      let n : jumps (prologue H ++ saves H.mask) ≡ jumps (prologue H) = jumps_append (prologue H) (saves H.mask) ∙ ap (λ (k : ℕ). jumps (prologue H) + k) (saves_jumps H.mask) ∙ add-zero (jumps (prologue H)) in
      rw (n, saves_jumps H.mask)

  entered : (u : State) → Represents b (prologue H ++ saves H.mask) (replicate (jumps (prologue H)) 1 ++ replicate (jumps (saves H.mask)) 0) u → Going b (only H) [] u
  unfolding body constants
  entered u l =
      record {
        laid = rw (append-nil (prologue H ++ saves H.mask), ← tags_first) l;
        fit = rw (append-nil (prologue H ++ saves H.mask)) (fit_append (prologue H) (saves H.mask) (prologue_fit H) (saves_fit H.mask));
        before = rw (append-nil (prologue H ++ saves H.mask)) (each_map Early Before (λ l q. (λ x. omega arith, omega arith)) (labels (prologue H ++ saves H.mask)) (entry_early H));
        bits = refl;
        few = omega arith;
        holds = g;
      }

  module _ (f : State → RunOutcome) (K : Program → Answer Program) (more : (u : State) → Going b (only H) [] u → Agrees b (K (only H)) (f u)) where
    saved : (t : State) → Represents b (prologue H) (replicate (jumps (prologue H)) 1) t
        → Agrees b (then (unless (space_number (length b) (prologue H) (saves H.mask)) 1 (only H)) K) (next (put 0 0 (saves H.mask) t) 1 f)
    saved t l =
        let new : shared (labels (saves H.mask)) (labels (prologue H)) ≡ false = rw (saves_labels H.mask) in
        subst (λ (k : ℕ). Agrees b (then (unless k 1 (only H)) K) (next (put 0 0 (saves H.mask) t) 1 f)) (room_space (length b) (prologue H) (saves H.mask) new)
        (put_agrees b (prologue H) (replicate (jumps (prologue H)) 1) t l (saves H.mask) 0 0 (fit_labelled (saves H.mask) (saves_fit H.mask)) (rw (saves_labels H.mask) tt) refl 1 f Program (only H) K
        (λ u m. more u (entered u m)))

    pub enter_agrees : (s : State) → Represents b [] [] s → Agrees b (then (unless (room_number (length b) [] (prologue H ++ saves H.mask)) 1 (only H)) K) (enter_run H s f)
    unfolding enter_run labels
    enter_agrees s a =
        subst (λ (k : ℕ). Agrees b (then (unless k 1 (only H)) K) (next (put 1 (prologue_fault H) (prologue H) s) 1 (λ (t : State). next (put 0 0 (saves H.mask) t) 1 f))) (sym (room_space (length b) [] (prologue H ++ saves H.mask) (shared_none (labels (prologue H ++ saves H.mask)))))
        (part_agrees b [] [] s a (prologue H) 1 (prologue_fault H) (fit_labelled (prologue H) (prologue_fit H)) (prologue_once H) fault_free 1 (λ (t : State). next (put 0 0 (saves H.mask) t) 1 f) (saves H.mask) (only H) K (shared_none (labels (prologue H)))
        saved)

-- ---- the file

module _ (b : List ℕ) (s : State) (a : Represents b [] [] s) where
  refuses : (n line : ℕ) → Agrees b (refused n line) (refused_at n line s)
  refuses = laid_refuses b [] [] s a

  head_agrees : (ts : List (List ℕ)) (x : Answer Content) → Said x
      → Agrees b (then (then (then (placed_at 1 x) (as_head (length b))) (λ p. lines_read (length b) p ts)) (ending b)) (head_run x ts s)
  head_agrees ts (refused n place) e = refuses n 1
  head_agrees ts (accepted (Deck.head h)) e =
      rw (then_then (unless (room_number (length b) [] (prologue h ++ saves h.mask)) 1 (only h)) (λ p. lines_read (length b) p ts) (ending b))
      (enter_agrees b h e (λ (t : State). lines_run h 1 [] ts t) (λ p. then (lines_read (length b) p ts) (ending b)) (λ u g. lines_agrees b ts (only h) [] u g) s a)
  head_agrees ts (accepted (Deck.order o)) e = refuses 12 1
  head_agrees ts (accepted (Deck.constant c)) e = refuses 12 1

  lines_all : (ts : List (List ℕ)) → Agrees b (then (file_read (length b) ts) (ending b)) (first_run ts s)
  unfolding head_read
  lines_all [] = refuses 12 1
  lines_all (t ∷ ts) = head_agrees ts (line_judged true (said t)) (line_said true (said t))

  file_agrees : (file : List ℕ) → Agrees b (program_of (length b) file) (file_run file s)
  unfolding program_of file_run
  file_agrees file = by (leb (length file) 65536)
    where
      by : (t : Bool) → Agrees b (cond t (then (file_read (length b) (lines_of file)) (ending b)) (refused 7 1)) (cond t (first_run (lines_of file) s) (refused_at 7 1 s))
      by true = lines_all (lines_of file)
      by false = refuses 7 1

-- ---- the buffer

zeros_left : (k r : ℕ) → drop k (replicate {A = ℕ} r 0) ≡ replicate (r - k) 0
zeros_left zero r = let z : r ≡ r - 0 = omega arith in ap (λ (n : ℕ). replicate n 0) z
zeros_left (suc k) zero = let z : 0 ≡ 0 - suc k = omega arith in ap (λ (n : ℕ). replicate {A = ℕ} n 0) z
zeros_left (suc k) (suc r) = let z : r - k ≡ suc r - suc k = omega arith in zeros_left k r ∙ ap (λ (n : ℕ). replicate n 0) z

module _ (b : List ℕ) where
  cleared_length : length (cleared b) ≡ length b
  unfolding cleared
  cleared_length =
      length-append (replicate (room (length b)) 0) (drop (room (length b)) b)
      ∙ omega (arith, length-replicate {A = ℕ} (room (length b)) 0, length-drop (room (length b)) b)

  cleared_behind : drop (room (length b)) (cleared b) ≡ drop (room (length b)) b
  unfolding cleared
  cleared_behind = drop_at (replicate (room (length b)) 0) (drop (room (length b)) b) (room (length b)) (length-replicate {A = ℕ} (room (length b)) 0)

  cleared_from : (k : ℕ) → k ≤ room (length b) → drop k (cleared b) ≡ replicate (room (length b) - k) 0 ++ drop (room (length b)) b
  unfolding cleared
  cleared_from k h =
      drop-append-le k (replicate (room (length b)) 0) (drop (room (length b)) b) (omega (arith, length-replicate {A = ℕ} (room (length b)) 0))
      ∙ ap (λ (l : List ℕ). l ++ drop (room (length b)) b) (zeros_left k (room (length b)))

  still_behind : (s : State) → Unmade (cleared b) s → drop (room (length b)) s.buf ≡ drop (room (length b)) b
  still_behind s u = rw cleared_length at u.behind ∙ cleared_behind

  -- after a refusal
  blank_after : (n line : ℕ) (s : State) → Unmade (cleared b) s → cleared s.buf ≡ buffer_after (refused n line) b
  unfolding cleared buffer_after
  blank_after n line s u =
      let e : length s.buf ≡ length b = u.size ∙ cleared_length in
      let z : room (length b) - 0 ≡ room (length b) = omega arith in
      rw (e, still_behind s u, z)

  -- after an accepted routine
  code_after : (p : Program) (s : State) → Left (cleared b) p s → s.buf ≡ buffer_after (accepted p) b
  unfolding buffer_after
  code_after p s l =
      let w = l.within in
      let n : room (length (cleared b)) ≡ room (length b) = ap room cleared_length in
      let z : 0 + 4 * length (routine_words p) ≡ length (bytes (routine_words p)) = omega (arith, length_bytes (routine_words p)) in
      l.buf
      ∙ written_is (cleared b) 0 (routine_words p) (omega arith)
      ∙ ap (λ (x : List ℕ). bytes (routine_words p) ++ x) (ap (λ (k : ℕ). drop k (cleared b)) z ∙ cleared_from (length (bytes (routine_words p))) (omega arith))

  -- the answer, and the buffer
  promised : (x : Answer Program) (m : RunOutcome) → Agrees (cleared b) x m
      → ((blanked m.answer m.state).answer ≡ summary_answer x) × ((blanked m.answer m.state).state.buf ≡ buffer_after x b)
  promised (refused n line) m a = rw a.0 (refl, blank_after n line m.state a.1)
  promised (accepted p) m a = rw a.0 (refl, code_after p m.state a.1)

kept : (b : List ℕ) (p : Program) (m : RunOutcome) → Agrees b (accepted p) m → Left b p (blanked m.answer m.state).state
kept b p m a = rw a.0 a.1

-- ---- the laws

module _ (file js b : List ℕ) (n : length js ≡ 20480) where
  made : Agrees (cleared b) (program_of (length b) file) (file_run file (fresh js b))
  made = rw (cleared_length b) at (file_agrees (cleared b) (fresh js b) (fresh_represents (cleared b) js n) file)

  -- The run is the plain definition, whatever the jump memory held.
  pub run_promise : Promise file b (run file js b).answer (run file js b).state.buf
  unfolding run
  run_promise = promised b (program_of (length b) file) (file_run file (fresh js b)) made

  -- What an accepted routine leaves in record, labels and jumps.
  pub run_accepted : (p : Program) → program_of (length b) file ≡ accepted p → Left (cleared b) p (run file js b).state
  unfolding run
  run_accepted p e = kept (cleared b) p (file_run file (fresh js b)) (subst (λ (x : Answer Program). Agrees (cleared b) x (file_run file (fresh js b))) e made)
