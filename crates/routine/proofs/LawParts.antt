-- The run over memory and the plain definition agree: what that says, and one order more. Assumes nothing.
use mathlib.Core.Path.{◌≡◌, refl, sym, ap, ◌∙◌}
use mathlib.Core.Bool.{true, false}
use mathlib.Core.List.{List, ◌++◌}
use Prim.Native.Nat.{ℕ, zero, suc, ◌*◌, ◌≤◌, ◌<◌}
use native.Mathlib.Omega.{arith}
use lib.ListN.{length, drop, get_or, replicate}
use Rattle.refusal.specs.Answer.{Answer, accepted, refused}
use Rattle.assembler.specs.Item.{Item}
use Rattle.assembler.specs.Bytes.{written, room}
use Rattle.assembler.specs.Memory.{jumps_of}
use Rattle.assembler.proofs.Tags.{tags_of}
use Rattle.assembler.specs.State.{State}
use Rattle.base.proofs.Bools.{join}
use Rattle.assembler.specs.Put.{words, jumps, labels, placed, put_number, settled, put}
use Rattle.assembler.specs.Resolved.{jumps_in}
use Rattle.assembler.proofs.Checks.{v_fault}
use Rattle.assembler.proofs.Steps.{put_done, settled_no}
use Rattle.finish.proofs.Represents.{Represents, Labelled, entry_of}
use Rattle.finish.proofs.All.{put_represents}
use Rattle.finish.proofs.Behind.{written_behind}
use Rattle.reading.specs.Program.{Program}
use Rattle.call.specs.Layout.{items, code_length, routine_words}
use Rattle.routine.specs.Routine.{then, unless, shared, room_number, jump_lines, summary_of}
use Rattle.routine.specs.Run.{RunOutcome, refused_at, next}
use Rattle.routine.proofs.LawRoom.{Once, laid_size, laid_sound, numbers_known, put_room, space_number, room_space, space_none, space_part}

-- ---- agreement

-- what an accepted routine leaves in the memories
pub record Left (b : List ℕ) (p : Program) (s : State) : Type 0 where
  pub asm : s.asm ≡ record { len = code_length p; jumps = jumps (items p); closed = true }
  pub within : 4 * length (routine_words p) ≤ room (length b)
  pub buf : s.buf ≡ written b 0 (routine_words p)
  pub few : jumps (items p) ≤ 4096
  pub set_labels : (l : ℕ) → l < 2039 → get_or s.labels l 0 ≡ entry_of (items p) l
  pub noted : jumps_of s.jumps 0 (jumps (items p)) ≡ jumps_in 0 (items p)
  pub tagged : tags_of s.jumps 0 (jumps (items p)) ≡ jump_lines p

-- a refused one: nothing behind the room
pub record Unmade (b : List ℕ) (s : State) : Type 0 where
  pub size : length s.buf ≡ length b
  pub behind : drop (room (length b)) s.buf ≡ drop (room (length b)) b

abbrev pub Agrees : (b : List ℕ) → Answer Program → RunOutcome → Type 0
Agrees b (refused n line) m = (m.answer ≡ refused n line) × Unmade b m.state
Agrees b (accepted p) m = (m.answer ≡ accepted (summary_of p)) × Left b p m.state

pub then_then : {A B C : Type 0} (x : Answer A) (F : A → Answer B) (K : B → Answer C) → then (then x F) K ≡ then x (λ a. then (F a) K)
then_then (accepted a) F K = refl
then_then (refused n place) F K = refl

-- ---- one order more

module _ (b : List ℕ) (is : List Item) (ts : List ℕ) (s : State) (a : Represents b is ts s) where
  pub laid_unmade : Unmade b s
  laid_unmade =
      let w = a.within in
      record {
        size = laid_size b is ts s a;
        behind = ap (drop (room (length b))) a.buf ∙ written_behind (room (length b)) b 0 (words is) (omega arith);
      }

  pub laid_refuses : (n line : ℕ) → Agrees b (refused n line) (refused_at n line s)
  laid_refuses n line = (refl, laid_unmade)

  -- a fault that is neither 1 nor 3 is what is told: the record is open and sound
  pub fault_agrees : (js : List Item) (tag k : ℕ) → Labelled js → (suc k ≡ 1 → ⊥) → (suc k ≡ 3 → ⊥) → (line : ℕ) (f : State → RunOutcome) → Agrees b (refused (suc k) line) (next (put tag (suc k) js s) line f)
  unfolding put
  fault_agrees js tag k lab h g line f =
      let q : suc k ≡ put_number (suc k) js s = v_fault (suc k) _ _ _ _ a.unclosed (join _ _ (numbers_known b is ts s a js lab) (laid_sound b is ts s a)) (λ z. omega arith) in
      rw (← q, settled_no (suc k) s (placed tag js s) (λ z. omega arith)) (laid_refuses (suc k) line)

  module _ (js : List Item) (tag fault : ℕ) (h : Labelled js) (o : Once (labels js)) (z : fault ≡ 0) where
    number_is : put_number fault js s ≡ room_number (length b) is js
    number_is = ap (λ (k : ℕ). put_number k js s) z ∙ put_room b is ts s a js h o

    done : room_number (length b) is js ≡ 0 → put tag fault js s ≡ record { answer = accepted tt; state = placed tag js s }
    done e = sym (put_done tag fault js s (placed tag js s) (number_is ∙ e) refl)

    done_laid : room_number (length b) is js ≡ 0 → Represents b (is ++ js) (ts ++ replicate (jumps js) tag) (placed tag js s)
    done_laid e = put_represents b is js ts tag fault s (placed tag js s) a h (done e)

    not_done : (k : ℕ) → room_number (length b) is js ≡ suc k → put tag fault js s ≡ record { answer = refused (suc k) 0; state = s }
    unfolding put
    not_done k e =
        let q : put_number fault js s ≡ suc k = number_is ∙ e in
        ap (λ (m : ℕ). settled m s (placed tag js s)) q ∙ settled_no (suc k) s (placed tag js s) (λ w. omega arith)

    module _ (line : ℕ) (f : State → RunOutcome) where
      not_agrees : (k : ℕ) → room_number (length b) is js ≡ suc k → Agrees b (refused (suc k) line) (next (put tag fault js s) line f)
      not_agrees k e = rw (not_done k e) (laid_refuses (suc k) line)

      pub put_agrees : (A : Type 0) (x : A) (g : A → Answer Program)
          → ((t : State) → Represents b (is ++ js) (ts ++ replicate (jumps js) tag) t → Agrees b (g x) (f t))
          → Agrees b (then (unless (room_number (length b) is js) line x) g) (next (put tag fault js s) line f)
      put_agrees A x g more = by (room_number (length b) is js) refl
        where
          by : (k : ℕ) → room_number (length b) is js ≡ k → Agrees b (then (unless k line x) g) (next (put tag fault js s) line f)
          by zero e = rw (done e) (more (placed tag js s) (done_laid e))
          by (suc k) e = not_agrees k e

      -- with new labels, and others to come that need room too
      pub part_agrees : (ks : List Item) (x : Program) (g : Program → Answer Program) → shared (labels js) (labels is) ≡ false
          → ((t : State) → Represents b (is ++ js) (ts ++ replicate (jumps js) tag) t → Agrees b (then (unless (space_number (length b) (is ++ js) ks) line x) g) (f t))
          → Agrees b (then (unless (space_number (length b) is (js ++ ks)) line x) g) (next (put tag fault js s) line f)
      part_agrees ks x g new more = by (space_number (length b) is js) refl
        where
          n : room_number (length b) is js ≡ space_number (length b) is js
          n = room_space (length b) is js new

          by : (k : ℕ) → space_number (length b) is js ≡ k → Agrees b (then (unless (space_number (length b) is (js ++ ks)) line x) g) (next (put tag fault js s) line f)
          by zero e = rw (done (n ∙ e), space_part (length b) is js ks) (more (placed tag js s) (done_laid (n ∙ e)))
          by (suc k) e = rw (space_none (length b) is js ks k e) (not_agrees k (n ∙ e))
