-- The listing of a routine's code, from what the routine promises. Assumes nothing.
use mathlib.Core.Path.{◌≡◌, refl, sym, ap, ◌∙◌, fun_ext}
use mathlib.Core.Bool.{Bool, true, false}
use mathlib.Core.List.{List}
use mathlib.Core.Option.{Option, some, none}
use Prim.Native.Nat.{ℕ, zero, suc, ◌+◌, ◌*◌, ◌%◌, ◌^◌, ◌<◌, ◌≤◌}
use native.Mathlib.Omega.{arith}
use borrow.Author.Tests.{eq-eqb, le-leb, leb-true, leb-false, ltb-true, ltb-false}
use lib.Dec.{leb, ltb}
use lib.ListN.{length, get_or, take, replicate, length-take, length-replicate}
use lib.Seq.{get_or-take, length-take-le, take_all}
use Rattle.base.proofs.Bools.{join}
use Rattle.isa.specs.Instr.{Instr}
use Rattle.isa.specs.Decode.{decode}
use Rattle.isa.proofs.Encodings.{encodings}
use Rattle.machine.specs.Word.{w64, load4}
use Rattle.refusal.specs.Answer.{Answer, accepted, refused}
use Rattle.refusal.specs.Number.{number_of}
use Rattle.reading.specs.Program.{Program}
use Rattle.assembler.specs.Bytes.{bytes}
use Rattle.call.specs.Layout.{constants_offset, routine_words}
use Rattle.routine.specs.Routine.{Summary, Promise, program_of, summary_of, summary_answer, buffer_after}
use Rattle.routine.specs.Answer.{routine_answer}
use Rattle.refusal.specs.declared.Refused.{Refused}
use Rattle.routine.specs.declared.Outline.{Outline}
use Rattle.std.specs.declared.result.Result.{Result}
use Rattle.std.specs.declared.result.Result.TheVariants.{Ok, Err}
use Rattle.correctness.proofs.Correct.{program, answered, told, code_left, extent, words_valid}
use Rattle.print.specs.Text.{Puts, words_of, refusal_line}
use Rattle.print.specs.Listing.{foreign, listing_lines, view_lines}
use Rattle.print.specs.Inner.Text.{word_in}
use Rattle.print.specs.declared.TooLong.{TooLong}
use Rattle.print.proofs.Short.{refusal_short}
use Rattle.print.proofs.Brief.{listing_short}
use Rattle.print.proofs.Listings.{first_from, first_end, first_behind, data_own, instr_own, views_length, all_shown}
use Rattle.listing.specs.Listing.{unless_foreign, listed, text_of, program_listing, deck_listing}
use Rattle.listing.specs.Never.{NeverRefused, EveryWord}
use Rattle.listing.specs.Views.{hidden_in, program_view, deck_view, MaintainerSees}
use Rattle.listing.specs.Inner.Listing.{summary_view, Says}
use Rattle.listing.specs.Inner.Marks.{hidden_by}
use Rattle.listing.specs.declared.View.{View}
use Rattle.listing.specs.declared.View.TheVariants.{Maintainer}
use Rattle.listing.proofs.Listed.{fine, lines, whole}
use Rattle.listing.proofs.Marked.{none_hidden, hidden_same}

-- ---- no word before the constants is foreign

-- a word of the code, as a machine would load it
loaded : (s : List ℕ) (n k : ℕ) → n ≤ 65536 → 4 * k + 4 ≤ n → word_in (take n s) (4 * k) ≡ load4 (λ x. get_or s x 0) (4 * k)
unfolding load4
loaded s n k h g =
    let a : w64 (4 * k + 0) ≡ 4 * k = omega arith in
    let b : w64 (4 * k + 1) ≡ 4 * k + 1 = omega arith in
    let c : w64 (4 * k + 2) ≡ 4 * k + 2 = omega arith in
    let d : w64 (4 * k + 3) ≡ 4 * k + 3 = omega arith in
    rw (a, b, c, d, get_or-take n s (4 * k) 0 (omega arith), get_or-take n s (4 * k + 1) 0 (omega arith), get_or-take n s (4 * k + 2) 0 (omega arith), get_or-take n s (4 * k + 3) 0 (omega arith))

module _ (constants : ℕ) (s : List ℕ) (own : (k : ℕ) → 4 * k < constants → 4 * k + 4 ≤ length s → (i : Instr) × (decode (word_in s (4 * k)) ≡ some i)) where
  not_foreign : (k : ℕ) → 4 * k + 4 ≤ length s → foreign constants (4 * k) (word_in s (4 * k)) ≡ false
  not_foreign k l = by (ltb (4 * k) constants) refl
    where
      by : (t : Bool) → ltb (4 * k) constants ≡ t → foreign constants (4 * k) (word_in s (4 * k)) ≡ false
      by true e = let h = ltb-true (4 * k) constants e in let x = own k h l in instr_own constants (4 * k) (word_in s (4 * k)) x.0 h x.1
      by false e = data_own constants (4 * k) (word_in s (4 * k)) (ltb-false (4 * k) constants e)

  none_from : (n k : ℕ) → length s ≤ 4 * k + 4 * n → first_from constants s (4 * k) ≡ none
  none_from zero k h = first_end constants s k (omega arith)
  none_from (suc n) k h = by (leb (4 * k + 4) (length s)) refl (none_from n (suc k) (omega arith))
    where
      by : (t : Bool) → leb (4 * k + 4) (length s) ≡ t → first_from constants s (4 * suc k) ≡ none → first_from constants s (4 * k) ≡ none
      by true e r =
          let l = leb-true (4 * k + 4) (length s) e in
          let q : 4 * (k + 1) ≡ 4 * suc k = omega arith in
          first_behind constants s k _ (omega arith) refl (not_foreign k l) ∙ ap (first_from constants s) q ∙ r
      by false e r = let l = leb-false (4 * k + 4) (length s) e in first_end constants s k (omega arith)

pub never_refused : NeverRefused
never_refused file buf t after h =
    let x : (t.offset ≤ t.length) × (t.length ≤ length after) × (t.length ≤ 65536) × (t.offset % 4 ≡ 0) × (t.length % 4 ≡ 0) = extent file buf t after h in
    let s : List ℕ = take t.length after in
    let l : length s ≡ t.length = length-take-le t.length after x.1 in
    let own : (k : ℕ) → 4 * k < t.offset → 4 * k + 4 ≤ length s → (i : Instr) × (decode (word_in s (4 * k)) ≡ some i) =
    λ k b g.
    let v = words_valid file buf t after h k b in
    (v.0, ap decode (loaded after t.length k x.2 (omega arith) ∙ v.2) ∙ encodings.decode_encode v.0 v.1) in
    let f : fine s t.offset ≡ true = join (leb t.offset (length s)) _ (le-leb t.offset (length s) (omega arith)) (eq-eqb (t.offset % 4) 0 x.3) in
    let n : length s % 4 ≡ 0 = rw l x.4 in
    whole s t.offset f n ∙ ap (λ (o : Option ℕ). unless_foreign o (accepted (lines s t.offset))) (none_from t.offset s own (length s) 0 (omega arith))

-- ---- a file's listing

pub every_word : EveryWord
unfolding deck_listing
every_word file p e =
    let buf : List ℕ = replicate 65536 0 in
    let full : length buf ≡ 65536 = length-replicate {A = ℕ} 65536 0 in
    let f : program_of (length buf) file ≡ accepted p = ap (λ (n : ℕ). program_of n file) full ∙ e in
    let h = answered file buf p f in
    let c = code_left file buf (summary_of p) (buffer_after (accepted p) buf) h p f in
    ap program_listing e ∙ ap (λ (s : List ℕ). text_of (listed s (constants_offset p))) (sym c)
    ∙ ap text_of (never_refused file buf (summary_of p) (buffer_after (accepted p) buf) h)
    ∙ ap (λ (s : List ℕ). lines s (constants_offset p)) c

-- ---- the maintainer's view

-- it hides nothing
pub plain_lines : (p : Program) → program_view Maintainer (accepted p) ≡ listing_lines (constants_offset p) 0 (words_of (bytes (routine_words p)))
plain_lines p =
    let ws = words_of (bytes (routine_words p)) in
    ap (λ (h : ℕ → Bool). view_lines h (constants_offset p) 0 ws) (fun_ext (none_hidden p.lines)) ∙ all_shown (constants_offset p) 0 ws

pub maintained : MaintainerSees
unfolding deck_view deck_listing
maintained file = by (program_of 65536 file) refl
  where
    by : (a : Answer Program) → program_of 65536 file ≡ a → program_view Maintainer a ≡ deck_listing file
    by (accepted p) e = plain_lines p ∙ sym (every_word file p e)
    by (refused n line) e = sym (ap program_listing e)

-- ---- a view of the routine's answer

module _ (v : View) (file buf after : List ℕ) (full : length buf ≡ 65536) where
  program_viewed : (t : Answer Summary) → Promise file buf t after → summary_view (hidden_by v file) t after ≡ program_view v (program_of (length buf) file)
  program_viewed (accepted t) h =
      let x = program file buf t after h in
      let p : Program = x.0 in
      let o : t.offset ≡ constants_offset p = ap (λ (u : Summary). u.offset) (told file buf t after h p x.1) in
      ap (λ (f : ℕ → Bool). view_lines f t.offset 0 (words_of (take t.length after))) (hidden_same (length buf) file p x.1 v)
      ∙ ap (λ (c : List ℕ). view_lines (hidden_in v p.lines) t.offset 0 (words_of c)) (code_left file buf t after h p x.1)
      ∙ ap (λ (k : ℕ). view_lines (hidden_in v p.lines) k 0 (words_of (bytes (routine_words p)))) o
      ∙ ap (program_view v) (sym x.1)
  program_viewed (refused n line) h = by (program_of (length buf) file) h.0
    where
      by : (a : Answer Program) → refused n line ≡ summary_answer a → refusal_line n line ≡ program_view v a
      by (accepted p) e = let z : ◌≡◌ {A = ℕ} 0 1 = cc in absurd (omega arith)
      by (refused m k) e = let q : n ≡ m = cc in let r : line ≡ k = cc in rw (q, r)

  deck_viewed : (t : Answer Summary) → Promise file buf t after → summary_view (hidden_by v file) t after ≡ deck_view v file
  unfolding deck_view
  deck_viewed t h = program_viewed t h ∙ ap (λ (n : ℕ). program_view v (program_of n file)) full

  pub deck_told : (t : Answer Summary) (r : Result ℕ TooLong) (out left : List ℕ) → length after ≡ length buf → Promise file buf t after → Says (summary_view (hidden_by v file) t after) after out r left
      → Puts (deck_view v file) 0 out r left × (t ≡ summary_answer (program_of 65536 file)) × (length (deck_view v file) ≤ 475136)
  deck_told t r out left n h q =
      let e = deck_viewed t h in
      (rw (← e) q.0, h.0 ∙ ap (λ (k : ℕ). summary_answer (program_of k file)) full, rw (← e) (q.1 (omega arith)))

-- `marks` says of each constant what `hidden` does
module _ (hidden : ℕ → Bool) (a : Result Outline Refused) (code out after : List ℕ) (r : Result ℕ TooLong) where
  pub part_said : (marks : ℕ → Bool) (t : Outline) → a ≡ Ok t → ((i : ℕ) → marks i ≡ hidden i) → Puts (view_lines marks t.offset 0 (words_of (take t.length code))) 0 out r after → Says (summary_view hidden (routine_answer a) code) code out r after
  part_said marks t e s p =
      let n = length-take t.length code in
      let m = views_length hidden t.offset 0 (words_of (take t.length code)) in
      rw e (rw (← (fun_ext s)) p, λ h. omega (arith, m, listing_short t.offset (take t.length code) (omega arith)))

  pub all_said : (marks : ℕ → Bool) (t : Outline) → a ≡ Ok t → ((i : ℕ) → marks i ≡ hidden i) → length code ≤ t.length → Puts (view_lines marks t.offset 0 (words_of code)) 0 out r after → Says (summary_view hidden (routine_answer a) code) code out r after
  all_said marks t e s h p = part_said marks t e s (rw (take_all t.length code h) p)

  pub refusal_said : (x : Refused) (n : ℕ) → a ≡ Err x → n ≡ number_of x.why → n < 256 → x.place < 2 ^ 32 → Puts (refusal_line n x.place) 0 out r after → Says (summary_view hidden (routine_answer a) code) code out r after
  refusal_said x n e h u v p =
      let s = refusal_short n x.place u v in
      rw (e, ← h) (p, λ z. omega arith)
