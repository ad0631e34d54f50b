-- The printed lines, stored part by part.
use mathlib.Core.Path.{◌≡◌, refl, ap, ◌∙◌}
use mathlib.Core.List.{List, [], ◌∷◌, ◌++◌}
use Prim.Native.Nat.{ℕ, suc, ◌+◌, ◌*◌, ◌/◌, ◌<◌, ◌≤◌}
use native.Mathlib.Omega.{arith}
use lib.ListN.{length, drop, get_or, length-append, length-drop}
use lib.Seq.{drop-cons}
use Rattle.text.specs.Digits.{decimal}
use Rattle.print.specs.Text.{words_of, hex, word_line, word_lines, refusal_line}
use Rattle.print.specs.Inner.Text.{word_in}
use Rattle.text.proofs.Numerals.{length_digits}

-- ---- a word's line

pub length_hex : (w : ℕ) → length (hex w) ≡ 8
length_hex w = length_digits 16 8 w

pub length_word_line : (offset w : ℕ) → length (word_line offset w) ≡ length (decimal offset) + 10
unfolding word_line
length_word_line offset w =
    simp length-append (omega (arith, length_hex w))

-- ---- a refusal's line

pub length_refusal_line : (number line : ℕ) → length (refusal_line number line) ≡ length (decimal number) + length (decimal line) + 10
unfolding refusal_line
length_refusal_line number line = simp length-append (omega arith)

-- ---- the words of the code

words_short : (l : List ℕ) → length l < 4 → words_of l ≡ []
unfolding words_of
words_short [] h = refl
words_short (a ∷ []) h = refl
words_short (a ∷ b ∷ []) h = refl
words_short (a ∷ b ∷ c ∷ []) h = refl
words_short (a ∷ b ∷ c ∷ d ∷ l) h = absurd (omega arith)

four : (s : List ℕ) (i : ℕ) → i + 4 ≤ length s → drop i s ≡ get_or s i 0 ∷ get_or s (i + 1) 0 ∷ get_or s (i + 2) 0 ∷ get_or s (i + 3) 0 ∷ drop (i + 4) s
four s i h =
    let a : i + 1 ≡ suc i = omega arith in
    let b : i + 2 ≡ suc (suc i) = omega arith in
    let c : i + 3 ≡ suc (suc (suc i)) = omega arith in
    let d : i + 4 ≡ suc (suc (suc (suc i))) = omega arith in
    drop-cons s i 0 (omega arith)
    ∙ rw (drop-cons s (suc i) 0 (omega arith), drop-cons s (suc (suc i)) 0 (omega arith), drop-cons s (suc (suc (suc i))) 0 (omega arith), a, b, c, d)

-- the words from byte i on
pub no_words : (s : List ℕ) (i : ℕ) → length s < i + 4 → words_of (drop i s) ≡ []
no_words s i h = words_short (drop i s) (simp length-drop (omega arith))

pub more_words : (s : List ℕ) (i : ℕ) → i + 4 ≤ length s → words_of (drop i s) ≡ word_in s i ∷ words_of (drop (i + 4) s)
unfolding words_of
more_words s i h = ap words_of (four s i h)

-- the lines from byte i on
abbrev pub rest_of : List ℕ → ℕ → List ℕ
rest_of s i = word_lines i (words_of (drop i s))

pub no_word : (s : List ℕ) (i : ℕ) → length s < i + 4 → rest_of s i ≡ []
unfolding word_lines
no_word s i h = ap (word_lines i) (no_words s i h)

pub one_word : (s : List ℕ) (i : ℕ) → i + 4 ≤ length s → rest_of s i ≡ word_line i (word_in s i) ++ rest_of s (i + 4)
unfolding word_lines
one_word s i h = ap (word_lines i) (more_words s i h)

-- ---- a turn of the loops over the words

module _ (s : List ℕ) (j : ℕ) where
  pub turn : (w : ℕ) → j < length s / 4 → w ≡ word_in s (4 * j) → rest_of s (4 * j) ≡ word_line (4 * j) w ++ rest_of s (4 * (j + 1))
  turn w h e =
      let i : 4 * j + 4 ≡ 4 * (j + 1) = omega arith in
      one_word s (4 * j) (omega arith) ∙ rw (e, i)

  pub turn_length : j < length s / 4 → length (rest_of s (4 * j)) ≡ length (decimal (4 * j)) + 10 + length (rest_of s (4 * (j + 1)))
  turn_length h =
      let w : ℕ = word_in s (4 * j) in
      omega (arith, ap length (turn w h refl), length-append (word_line (4 * j) w) (rest_of s (4 * (j + 1))), length_word_line (4 * j) w)

  pub turns_end : length s / 4 ≤ j → rest_of s (4 * j) ≡ []
  turns_end h = no_word s (4 * j) (omega arith)
