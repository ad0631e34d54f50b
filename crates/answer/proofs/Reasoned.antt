-- From the routine's promise to the refusal in words.
use mathlib.Core.Path.{◌≡◌, refl, ap, ◌∙◌}
use mathlib.Core.List.{List, []}
use Prim.Native.Nat.{ℕ, ◌^◌, ◌≤◌, ◌<◌}
use native.Mathlib.Omega.{arith}
use borrow.Author.Tests.{le-leb}
use lib.ListN.{length}
use Rattle.refusal.specs.Answer.{Answer, accepted, refused}
use Rattle.refusal.specs.declared.Refusal.{Refusal}
use Rattle.refusal.specs.Number.{number_of}
use Rattle.ast.specs.declared.Frame.{Frame}
use Rattle.reading.specs.Program.{Program}
use Rattle.routine.specs.Routine.{Summary, Promise, program_of, summary_answer}
use Rattle.refusal.specs.declared.Refused.{Refused}
use Rattle.routine.specs.declared.Outline.{Outline}
use Rattle.std.specs.declared.result.Result.{Result}
use Rattle.std.specs.declared.result.Result.TheVariants.{Ok, Err}
use Rattle.routine.specs.Answer.{routine_answer}
use Rattle.print.specs.Text.{Puts}
use Rattle.print.specs.Reason.{reason_line}
use Rattle.print.specs.declared.TooLong.{TooLong}
use Rattle.print.proofs.Fitting.{fits}
use Rattle.print.proofs.Sentences.{reason_short}
use Rattle.answer.specs.Answer.{reason_of, deck_reason}

-- the promise, and the bound
abbrev pub Says : (text out : List ℕ) → Result ℕ TooLong → (after : List ℕ) → Type 0
Says text out r after = Puts text 0 out r after × (length text ≤ 128)

pub nothing_said : (a : Result Outline Refused) (out : List ℕ) (t : Outline) → a ≡ Ok t → Says (reason_of (routine_answer a)) out (Ok 0) out
nothing_said a out t e =
    rw e (fits [] 0 out out 0 (le-leb 0 (length out) (omega arith)) refl refl, omega arith)

pub reason_said : (a : Result Outline Refused) (out after : List ℕ) (r : Result ℕ TooLong) (x : Refused) (n : ℕ) → a ≡ Err x → n ≡ number_of x.why → n < 256 → x.place < 2 ^ 32 → Puts (reason_line n x.place) 0 out r after
    → Says (reason_of (routine_answer a)) out r after
reason_said a out after r x n e h u v p = rw (e, ← h) (p, reason_short n x.place u v)

same_reason : (a : Answer Program) → reason_of (summary_answer a) ≡ reason_of a
same_reason (accepted p) = refl
same_reason (refused n line) = refl

pub deck_said : (file buf after : List ℕ) (t : Answer Summary) (r : Result ℕ TooLong) (err left : List ℕ) → length buf ≡ 65536 → Promise file buf t after → Says (reason_of t) err r left → Says (deck_reason file) err r left
unfolding deck_reason
deck_said file buf after t r err left full p q =
    let e : reason_of t ≡ reason_of (program_of (length buf) file) = ap reason_of p.0 ∙ same_reason (program_of (length buf) file) in
    rw (← full, ← e) q
