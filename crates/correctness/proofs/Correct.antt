-- DEMAND 3 of a file: from what the routine promises to what a call does.
use mathlib.Core.Path.{◌≡◌, refl, sym, ap, subst, ◌∙◌}
use mathlib.Core.List.{List}
use Prim.Native.Nat.{ℕ, ◌+◌, ◌*◌, ◌%◌, ◌≤◌, ◌<◌}
use native.Mathlib.Omega.{arith}
use lib.ListN.{length, get_or, take, length-take, get_or-append}
use lib.Seq.{take_at}
use Rattle.base.proofs.Bools.{true_T}
use Rattle.isa.specs.Instr.{valid}
use Rattle.isa.proofs.Validity.{Valid_valid}
use Rattle.isa.proofs.Laws.{encode_decode}
use Rattle.machine.specs.Word.{w64}
use Rattle.machine.specs.State.{State}
use Rattle.machine.specs.Step.{Loaded}
use Rattle.machine.proofs.Placed.{code_word}
use Rattle.refusal.specs.Answer.{Answer, accepted, refused}
use Rattle.assembler.specs.Bytes.{bytes}
use Rattle.assembler.proofs.Writes.{length_bytes}
use Rattle.reading.specs.Program.{Program, constants}
use Rattle.call.specs.Layout.{constants_from, code_items, pad, data_items, items, place, code_length, constants_offset, routine_words}
use Rattle.call.proofs.Good.{Good}
use Rattle.reading.specs.Terms.{start, Terms}
use Rattle.call.specs.Returned.{Returned}
use Rattle.call.proofs.Claim.{Called}
use Rattle.call.proofs.Items.{span_append, span_four, resolved_length}
use Rattle.call.proofs.Padding.{offset_eight}
use Rattle.call.proofs.Words.{decodes, code_stands}
use Rattle.call.proofs.Forth.{ends}
use Rattle.call.proofs.Call.{call}
use Rattle.call.proofs.Underway.{underway}
use Rattle.routine.specs.Routine.{Summary, summary_of, summary_answer, buffer_after, program_of, Promise}
use Rattle.correctness.specs.Claim.{CallSetup, Claim, ForwardClaim, WordsClaim}
use Rattle.correctness.specs.Follows.{ProgramClaim, SameClaim, OffsetClaim, ExtentClaim, UnderwayClaim}
use Rattle.correctness.proofs.Accepts.{same}
use Rattle.correctness.proofs.Whole.{accepted_good}
use Rattle.correctness.proofs.Same.{program_same}

-- ---- the answer and the buffer

-- An accepted answer is that of a program.
pub program : ProgramClaim
program file buf t after h = by (program_of (length buf) file) refl h.0
  where
    by : (a : Answer Program) → program_of (length buf) file ≡ a → accepted t ≡ summary_answer a → (p : Program) × (program_of (length buf) file ≡ accepted p)
    by (accepted p) e k = (p, e)
    by (refused n line) e k = let z : ◌≡◌ {A = ℕ} 0 1 = cc in absurd (omega arith)

-- what the routine answers and leaves where the file reads to p
pub answered : (file buf : List ℕ) (p : Program) → program_of (length buf) file ≡ accepted p → Promise file buf (accepted (summary_of p)) (buffer_after (accepted p) buf)
answered file buf p e = (ap summary_answer (sym e), ap (λ (a : Answer Program). buffer_after a buf) (sym e))

pub code_fits : (p : Program) → length (bytes (routine_words p)) ≡ code_length p
code_fits p = omega (arith, length_bytes (routine_words p), resolved_length (place p) 0 (items p))

module _ (file buf : List ℕ) (t : Summary) (after : List ℕ) (h : Promise file buf (accepted t) after) (p : Program) (e : program_of (length buf) file ≡ accepted p) where
  pub told : t ≡ summary_of p
  told = same t (summary_of p) (h.0 ∙ ap summary_answer e)

  left : after ≡ buffer_after (accepted p) buf
  left = h.1 ∙ ap (λ (a : Answer Program). buffer_after a buf) e

  -- The bytes that the routine leaves are those of the program's words.
  pub code_left : take t.length after ≡ bytes (routine_words p)
  unfolding buffer_after
  code_left = rw (told, left) (take_at (bytes (routine_words p)) _ (code_length p) (code_fits p))

  -- They stand at the buffer's start.
  pub stands : Good p → Loaded (λ x. get_or after x 0) 0 (bytes (routine_words p))
  unfolding buffer_after
  stands g k l =
      let z : w64 (0 + k) ≡ k = omega (arith, l, code_fits p, g.room) in
      rw (z, left) (get_or-append (bytes (routine_words p)) _ 0 k l)

-- ---- DEMAND 3

called : (file buf : List ℕ) (t : Summary) (after : List ℕ) (p : Program) (s : State) → CallSetup file buf t after p s → Called p s
called file buf t after p s h =
    record {
      sound = h.sound;
      code = subst (Loaded s.mem s.pc) (code_left file buf t after h.promised p h.lines) h.code;
      terms = subst (λ (u : Summary). Terms p.head u.length s) (told file buf t after h.promised p h.lines) h.terms;
    }

-- The other way, for closed calls.
pub set_up : (file buf : List ℕ) (t : Summary) (after : List ℕ) (p : Program) (s : State) → Promise file buf (accepted t) after → program_of (length buf) file ≡ accepted p → Called p s → CallSetup file buf t after p s
set_up file buf t after p s h e c =
    record {
      promised = h;
      lines = e;
      sound = c.sound;
      code = subst (Loaded s.mem s.pc) (sym (code_left file buf t after h p e)) c.code;
      terms = subst (λ (u : Summary). Terms p.head u.length s) (sym (told file buf t after h p e)) c.terms;
    }

pub correct : Claim
correct Q file buf t after p s h n r q z =
    subst (λ (u : Summary). Returned Q p u.length s n r) (sym (told file buf t after h.promised p h.lines))
    (call Q p (accepted_good (length buf) file p h.lines) s (called file buf t after p s h) n r q z)

pub underway_correct : UnderwayClaim
underway_correct Q file buf t after p s h n r q =
    let u = underway Q p (accepted_good (length buf) file p h.lines) s (called file buf t after p s h) n r q in
    record { k = u.0; here = u.1; runs = u.2; f = u.3; cells = u.4 }

pub forward_correct : ForwardClaim
forward_correct Q file buf t after p s h f =
    let e = ends Q p (accepted_good (length buf) file p h.lines) f (start p.head s) in
    (e.0, e.1, e.2, e.3, correct Q file buf t after p s h e.0 e.1 e.2 e.3)

-- ---- what follows

-- constants come last
before_end : (p : Program) → constants_offset p ≤ code_length p
unfolding items
before_end p = omega (arith, span_append (code_items p) (data_items p), span_append (pad p) (constants_from 0 (constants p.lines)))

pub extent : ExtentClaim
extent file buf t after h =
    let x = program file buf t after h in
    let p : Program = x.0 in
    let g : Good p = accepted_good (length buf) file p x.1 in
    let e = told file buf t after h p x.1 in
    let n = ap length (code_left file buf t after h p x.1) ∙ code_fits p in
    let m = length-take t.length after in
    let o : t.offset ≡ constants_offset p = ap (λ (u : Summary). u.offset) e in
    let l : t.length ≡ code_length p = ap (λ (u : Summary). u.length) e in (
      omega (arith, o, l, before_end p),
      omega (arith, n, m, l),
      omega (arith, l, g.room),
      rw o (omega (arith, span_four (code_items p), span_four (pad p))),
      rw l (span_four (items p)),
    )

pub eights : OffsetClaim
eights file buf t after h n =
    let x = program file buf t after h in
    subst (λ (u : Summary). 0 < u.constants → u.offset % 8 ≡ 0) (sym (told file buf t after h x.0 x.1)) (offset_eight x.0) (omega (arith, n))

pub words_valid : WordsClaim
words_valid file buf t after h k b =
    let x = program file buf t after h in
    let p : Program = x.0 in
    let g : Good p = accepted_good (length buf) file p x.1 in
    let ws : List ℕ = routine_words p in
    let c : 4 * k < constants_offset p = subst (λ (u : Summary). 4 * k < u.offset) (told file buf t after h p x.1) b in
    let l : 4 * k < code_length p = omega (arith, before_end p) in
    let e : 0 + 4 * k ≡ 4 * k = omega arith in
    let w : w64 (4 * k) ≡ 4 * k = omega (arith, l, g.room) in
    let n : k < length ws = omega (arith, l, resolved_length (place p) 0 (items p)) in
    let y = code_word (λ x. get_or after x 0) 0 ws k (code_stands p g (λ x. get_or after x 0) 0 (omega arith) (stands file buf t after h p x.1 g)) n in
    let i = decodes p g k c in
    (i.0, true_T (valid i.0) (Valid_valid i.0 i.1), rw (rw (e, w) at y) (sym (encode_decode _ i.0 i.2).1))

pub same_code : SameClaim
same_code file buf buf' t t' after after' h k =
    let x = program file buf t after h in
    let y = program file buf' t' after' k in
    let z : x.0 ≡ y.0 = program_same (length buf) (length buf') file x.0 y.0 x.1 y.1 in (
      told file buf t after h x.0 x.1 ∙ ap summary_of z ∙ sym (told file buf' t' after' k y.0 y.1),
      code_left file buf t after h x.0 x.1 ∙ ap (λ (p : Program). bytes (routine_words p)) z ∙ sym (code_left file buf' t' after' k y.0 y.1),
    )
