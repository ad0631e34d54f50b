-- What is printed of a deck file, from what the routine leaves. Assumes nothing.
use mathlib.Core.Path.{◌≡◌, refl, ap, ◌∙◌}
use mathlib.Core.List.{List}
use Prim.Native.Nat.{ℕ, ◌^◌, ◌≤◌, ◌<◌}
use borrow.Author.Tests.{leb-true}
use lib.Dec.{leb}
use lib.ListN.{length}
use Rattle.refusal.specs.Answer.{Answer, accepted, refused}
use Rattle.refusal.specs.Number.{number_of}
use Rattle.assembler.specs.declared.Asm.{Asm}
use Rattle.print.specs.Text.{refusal_line, Puts}
use Rattle.print.specs.declared.TooLong.{TooLong}
use Rattle.reading.specs.Program.{Program}
use Rattle.routine.specs.Routine.{program_of, summary_answer}
use Rattle.routine.specs.Answer.{routine_answer, run_outcome}
use Rattle.routine.specs.Run.{RunOutcome, run}
use Rattle.refusal.specs.declared.Refused.{Refused}
use Rattle.routine.specs.declared.Outline.{Outline}
use Rattle.std.specs.declared.result.Result.{Result}
use Rattle.std.specs.declared.result.Result.TheVariants.{Ok, Err}
use Rattle.routine.specs.declared.RoutineResult.{RoutineResult}
use Rattle.routine.proofs.Law.{run_promise}
use Rattle.correctness.proofs.Accepts.{cond_accepts}
use Rattle.stale.specs.Deck.{unused_of, line_of, labels_text, program_labels, deck_labels}
use Rattle.stale.specs.Inner.Scan.{file_line}
use Rattle.stale.specs.Inner.Text.{list_of, memory_text, summary_text, Within, Says}
use Rattle.stale.proofs.Memory.{run_listed}
use Rattle.stale.proofs.Scan.{same_line}
use Rattle.stale.proofs.Texts.{same_text, refusal_short}

-- ---- by the answer

module _ (file m : List ℕ) (asm : Asm) (a : Result Outline Refused) where
  module _ (t : Outline) (e : a ≡ Ok t) where
    pub accepted_within : Within (routine_answer a) file → length file ≤ 65536
    accepted_within w = rw e at w

    pub accepted_said : (out after : List ℕ) (r : Result ℕ TooLong) → Says (memory_text file m asm) out r after → Says (summary_text (routine_answer a) file m asm) out r after
    accepted_said out after r s = rw e s

  pub refusal_said : (x : Refused) (n : ℕ) → a ≡ Err x → n ≡ number_of x.why → n < 256 → x.place < 2 ^ 32 → (out after : List ℕ) (r : Result ℕ TooLong) → Puts (refusal_line n x.place) 0 out r after → Says (summary_text (routine_answer a) file m asm) out r after
  refusal_said x n e h u v out after r p = rw (e, ← h) (p, refusal_short n x.place u v)

-- ---- of a file

not_long : (size : ℕ) (file : List ℕ) (p : Program) → program_of size file ≡ accepted p → length file ≤ 65536
unfolding program_of
not_long size file p e = leb-true (length file) 65536 (cond_accepts (leb (length file) 65536) 7 1 _ p e).0

-- the routine's run over a buffer of full size
module _ (file js b : List ℕ) (wide : length js ≡ 20480) (full : length b ≡ 65536) where
  answered : (run file js b).answer ≡ summary_answer (program_of 65536 file)
  answered = (run_promise file js b wide).0 ∙ ap (λ (n : ℕ). summary_answer (program_of n file)) full

  within : (x : Answer Program) → program_of 65536 file ≡ x → Within (summary_answer x) file
  within (accepted p) e = not_long 65536 file p e
  within (refused n line) e = tt

  text_is : (x : Answer Program) → program_of 65536 file ≡ x → summary_text (summary_answer x) file (run file js b).state.labels (run file js b).state.asm ≡ program_labels x
  text_is (accepted p) e =
      let l = run_listed file js b p wide (ap (λ (n : ℕ). program_of n file) full ∙ e) in
      ap (λ (a : Answer (List ℕ)). labels_text (file_line file) (list_of a)) l ∙ same_text (file_line file) (line_of p) (λ k h. same_line 65536 file p e k) (unused_of p)
  text_is (refused n line) e = refl

  module _ (r : RoutineResult) (labels jumps buf : List ℕ) (e : run_outcome r labels jumps buf ≡ run file js b) where
    answer_is : routine_answer r.answer ≡ summary_answer (program_of 65536 file)
    answer_is = ap (λ (m : RunOutcome). m.answer) e ∙ answered

    pub is_within : Within (routine_answer r.answer) file
    is_within = rw answer_is (within (program_of 65536 file) refl)

    pub deck_told : (out after : List ℕ) (t : Result ℕ TooLong) → Says (summary_text (routine_answer r.answer) file labels r.asm) out t after
        → Puts (deck_labels file) 0 out t after × (routine_answer r.answer ≡ summary_answer (program_of 65536 file)) × (length (deck_labels file) ≤ 11264)
    unfolding deck_labels
    deck_told out after t s =
        let k : labels ≡ (run file js b).state.labels = ap (λ (m : RunOutcome). m.state.labels) e in
        let a : r.asm ≡ (run file js b).state.asm = ap (λ (m : RunOutcome). m.state.asm) e in
        let q : summary_text (routine_answer r.answer) file labels r.asm ≡ program_labels (program_of 65536 file) = rw (answer_is, k, a) (text_is (program_of 65536 file) refl) in
        let u = rw q at s in
        (u.0, answer_is, u.1)
