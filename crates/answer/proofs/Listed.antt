-- From the routine's promise to the text that is printed.
use mathlib.Core.Path.{◌≡◌, refl, sym, ap, ◌∙◌}
use mathlib.Core.List.{List, [], ◌∷◌, ◌++◌, flat_map}
use Prim.Native.Nat.{ℕ, zero, suc, ◌+◌, ◌*◌, ◌/◌, ◌%◌, ◌^◌, ◌≤◌, ◌<◌}
use native.Mathlib.Nat.{mul_assoc, pow-succ', one-le-pow, add-mul-div_right, add-mul-mod_self_right}
use native.Mathlib.Omega.{arith}
use lib.ListN.{length, take, length-take}
use lib.Seq.{take_all, take_at}
use Rattle.refusal.specs.Answer.{Answer, accepted, refused}
use Rattle.refusal.specs.declared.Refusal.{Refusal}
use Rattle.refusal.specs.Number.{number_of}
use Rattle.text.specs.Digits.{decimal, digits}
use Rattle.assembler.specs.Bytes.{bytes}
use Rattle.assembler.proofs.Writes.{length_bytes}
use Rattle.reading.specs.Program.{Program}
use Rattle.call.specs.Layout.{items, place, routine_words, code_length}
use Rattle.call.proofs.Items.{resolved_length}
use Rattle.routine.specs.Routine.{Summary, Promise, program_of, summary_answer, buffer_after}
use Rattle.ast.specs.declared.Frame.{Frame}
use Rattle.refusal.specs.declared.Refused.{Refused}
use Rattle.routine.specs.declared.Outline.{Outline}
use Rattle.std.specs.declared.result.Result.{Result}
use Rattle.std.specs.declared.result.Result.TheVariants.{Ok, Err}
use Rattle.routine.specs.Answer.{routine_answer}
use Rattle.print.specs.Text.{Puts, le_word, words_of, hex, word_line, word_lines, refusal_line}
use Rattle.print.specs.declared.TooLong.{TooLong}
use Rattle.print.proofs.Short.{words_short, refusal_short}
use Rattle.answer.specs.Answer.{answer_text, program_text, deck_text}

-- the promise, and the bound
abbrev pub Tells : (text : List ℕ) → (code out : List ℕ) → Result ℕ TooLong → (after : List ℕ) → Type 0
Tells text code out r after = Puts text 0 out r after × (length code ≤ 65536 → length text ≤ 245760)

module _ (a : Result Outline Refused) (code out after : List ℕ) (r : Result ℕ TooLong) where
  pub words_told : (t : Outline) → a ≡ Ok t → Puts (word_lines 0 (words_of (take t.length code))) 0 out r after → Tells (answer_text (routine_answer a) code) code out r after
  words_told t e p =
      let n = length-take t.length code in
      rw e (p, λ h. words_short (take t.length code) (omega arith))

  pub all_told : (t : Outline) → a ≡ Ok t → length code ≤ t.length → Puts (word_lines 0 (words_of code)) 0 out r after → Tells (answer_text (routine_answer a) code) code out r after
  all_told t e h p = words_told t e (rw (take_all t.length code h) p)

  pub refusal_told : (x : Refused) (n : ℕ) → a ≡ Err x → n ≡ number_of x.why → n < 256 → x.place < 2 ^ 32 → Puts (refusal_line n x.place) 0 out r after → Tells (answer_text (routine_answer a) code) code out r after
  refusal_told x n e h u v p = rw (e, ← h) (p, λ z. refusal_short n x.place u v)

-- ---- words from the buffer's bytes

-- k digits show the low part only
low_digits : (k m q : ℕ) → digits 16 k (m + q * 16 ^ k) ≡ digits 16 k m
unfolding digits
low_digits zero m q = refl
low_digits (suc k) m q =
    let e : q * 16 ^ suc k ≡ q * 16 * 16 ^ k = ap (λ (x : ℕ). q * x) (pow-succ' 16 k) ∙ sym (mul_assoc q 16 (16 ^ k)) in
    let d : (m + q * 16 * 16 ^ k) / 16 ^ k % 16 ≡ m / 16 ^ k % 16 =
    ap (λ (x : ℕ). x % 16) (add-mul-div_right m (q * 16) (one-le-pow k 16 (omega arith))) ∙ add-mul-mod_self_right (m / 16 ^ k) q 16 in
    rw (e, d, low_digits k m (q * 16))

low : (w : ℕ) → w ≡ w % 256 + w / 2 ^ 8 % 256 * 256 + w / 2 ^ 16 * 65536
low w = omega arith

third : (w : ℕ) → w / 2 ^ 16 ≡ w / 2 ^ 16 % 256 + w / 2 ^ 24 % 256 * 256 + w / 2 ^ 32 * 65536
third w =
    let p : w / 2 ^ 24 ≡ w / 2 ^ 16 / 256 = omega arith in
    let q : w / 2 ^ 32 ≡ w / 2 ^ 16 / 65536 = omega arith in
    rw (p, q) (omega arith)

-- a word's four bytes, and what stands above them
together : (w : ℕ) → w ≡ le_word (w % 256) (w / 2 ^ 8 % 256) (w / 2 ^ 16 % 256) (w / 2 ^ 24 % 256) + w / 2 ^ 32 * 16 ^ 8
together w =
    let h = third w in
    let p : w ≡ w % 256 + w / 2 ^ 8 % 256 * 256 + w / 2 ^ 16 * 65536 = low w in
    omega (arith, h, p)

byte_line : (offset w : ℕ) → word_line offset (le_word (w % 256) (w / 2 ^ 8 % 256) (w / 2 ^ 16 % 256) (w / 2 ^ 24 % 256)) ≡ word_line offset w
unfolding word_line
byte_line offset w =
    let m : ℕ = le_word (w % 256) (w / 2 ^ 8 % 256) (w / 2 ^ 16 % 256) (w / 2 ^ 24 % 256) in
    let e : hex m ≡ hex w = sym (ap hex (together w) ∙ low_digits 8 m (w / 2 ^ 32)) in
    ap (λ (x : List ℕ). decimal offset ++ (44 ∷ (x ++ (10 ∷ [])))) e

pub lines_back : (offset : ℕ) (ws : List ℕ) → word_lines offset (words_of (bytes ws)) ≡ word_lines offset ws
unfolding word_lines words_of bytes flat_map
lines_back offset [] = refl
lines_back offset (w ∷ ws) = rw (byte_line offset w, lines_back (offset + 4) ws)

-- ---- the promise

module _ (file buf after : List ℕ) (full : length buf ≡ 65536) where
  of_program : (a : Answer Program) → after ≡ buffer_after a buf → answer_text (summary_answer a) after ≡ program_text a
  unfolding buffer_after
  of_program (refused n line) e = refl
  of_program (accepted p) e =
      let n : length (bytes (routine_words p)) ≡ code_length p = length_bytes (routine_words p) ∙ resolved_length (place p) 0 (items p) in
      rw (e, take_at (bytes (routine_words p)) _ (code_length p) n) (lines_back 0 (routine_words p))

  pub listed : (t : Answer Summary) → Promise file buf t after → answer_text t after ≡ deck_text file
  unfolding deck_text
  listed t p = rw (← full, p.0) (of_program (program_of (length buf) file) p.1)

  pub deck_told : (t : Answer Summary) (r : Result ℕ TooLong) (out left : List ℕ) → length after ≡ length buf → Promise file buf t after → Tells (answer_text t after) after out r left → Puts (deck_text file) 0 out r left × (length (deck_text file) ≤ 245760)
  deck_told t r out left n p q = rw (← listed t p) (q.0, q.1 (omega arith))
