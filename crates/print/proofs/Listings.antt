-- The listing's lines: their parts, how long they are, and a turn of the loops over the words. Assumes nothing.
use mathlib.Core.Path.{◌≡◌, refl, sym, ap, ◌∙◌}
use mathlib.Core.Bool.{Bool, true, false, not, cond}
use mathlib.Core.List.{List, [], ◌∷◌, ◌++◌}
use mathlib.Core.Option.{Option, some, none}
use Prim.Native.Nat.{ℕ, ◌+◌, ◌-◌, ◌*◌, ◌/◌, ◌<◌, ◌≤◌}
use native.Mathlib.Omega.{arith}
use borrow.Author.Tests.{lt-ltb, le-ltb, lt-leb, le-leb, leb-true}
use lib.Dec.{leb}
use lib.ListN.{length, drop, length-append, get_or-eq_default}
use Rattle.base.proofs.Bools.{both, and_false}
use Rattle.isa.specs.Instr.{Instr}
use Rattle.isa.specs.Decode.{decode}
use Rattle.text.specs.Ascii.{bytes}
use Rattle.text.specs.Digits.{decimal}
use Rattle.text.proofs.Numerals.{length_digits}
use Rattle.std.specs.Prelude.{Some, None}
use Rattle.std.specs.Prelude as Std
use Rattle.std.specs.Option.{is_some}
use Rattle.encoder.specs.declared.Instr as Declared
use Rattle.decoder.specs.Decoded.{instr_answer}
use Rattle.print.specs.Text.{words_of, hex}
use Rattle.print.specs.Listing.{name, shown, operands_text, instr_line, data_line, listing_line, listing_lines, hidden_line, hidden_half, view_line, view_lines, marked, foreign, foreign_from}
use Rattle.print.specs.Inner.Text.{word_in}
use Rattle.print.proofs.Lines.{no_words, more_words}

-- ---- an instruction's line

pub length_instr_line : (o : ℕ) (i : Instr) → length (instr_line o i) ≡ length (decimal o) + length (bytes (name i)) + length (operands_text (shown i)) + 2
unfolding instr_line
length_instr_line o i = simp length-append (omega arith)

-- ---- a constant's line

pub length_data_line : (o w : ℕ) → length (data_line o w) ≡ length (decimal o) + 15
unfolding data_line
length_data_line o w =
    let h : length (hex w) ≡ 8 = length_digits 16 8 w in
    simp length-append (omega arith)

-- ---- a word's line, by what the word is

module _ (constants o w : ℕ) where
  pub data_at : constants ≤ o → listing_line constants o w ≡ data_line o w
  unfolding listing_line
  data_at h = rw (le-ltb o constants h)

  pub data_own : constants ≤ o → foreign constants o w ≡ false
  unfolding foreign
  data_own h = rw (le-ltb o constants h)

  pub instr_at : (i : Instr) → o < constants → decode w ≡ some i → listing_line constants o w ≡ instr_line o i
  unfolding listing_line
  instr_at i h e = rw (lt-ltb o constants h, e)

  pub instr_own : (i : Instr) → o < constants → decode w ≡ some i → foreign constants o w ≡ false
  unfolding foreign
  instr_own i h e = rw (lt-ltb o constants h, e)

  pub no_line : o < constants → decode w ≡ none → listing_line constants o w ≡ []
  unfolding listing_line
  no_line h e = rw (lt-ltb o constants h, e)

  pub no_instr : (d : Std.Option Declared.Instr) (t : Bool) → is_some d ≡ not t → o < constants → instr_answer d ≡ decode w → t ≡ foreign constants o w
  unfolding foreign
  no_instr (Some i) false n h e = rw (lt-ltb o constants h, ← e)
  no_instr (Some i) true n h e = cc
  no_instr None false n h e = cc
  no_instr None true n h e = rw (lt-ltb o constants h, ← e)

-- ---- a hidden line

pub length_hidden_line : (o : ℕ) → length (hidden_line o) ≡ length (decimal o) + 15
unfolding hidden_line
length_hidden_line o = simp length-append (omega arith)

module _ (hidden : ℕ → Bool) (constants o w : ℕ) where
  pub view_hidden : hidden_half hidden constants o ≡ true → view_line hidden constants o w ≡ hidden_line o
  unfolding view_line
  view_hidden e = rw e

  pub view_shown : hidden_half hidden constants o ≡ false → view_line hidden constants o w ≡ listing_line constants o w
  unfolding view_line
  view_shown e = rw e

  -- a hidden word is a constant's
  pub hidden_length : hidden_half hidden constants o ≡ true → length (hidden_line o) ≡ length (listing_line constants o w)
  hidden_length e =
      let h = leb-true constants o (both (leb constants o) _ e).0 in
      length_hidden_line o ∙ sym (ap length (data_at constants o w h) ∙ length_data_line o w)

  pub view_length : length (view_line hidden constants o w) ≡ length (listing_line constants o w)
  view_length = by (hidden_half hidden constants o) refl
    where
      by : (t : Bool) → hidden_half hidden constants o ≡ t → length (view_line hidden constants o w) ≡ length (listing_line constants o w)
      by true e = ap length (view_hidden e) ∙ hidden_length e
      by false e = ap length (view_shown e)

module _ (hidden : ℕ → Bool) (constants : ℕ) where
  pub views_length : (o : ℕ) (ws : List ℕ) → length (view_lines hidden constants o ws) ≡ length (listing_lines constants o ws)
  unfolding view_lines listing_lines
  views_length o [] = refl
  views_length o (w ∷ ws) =
      length-append (view_line hidden constants o w) (view_lines hidden constants (o + 4) ws)
      ∙ rw (view_length hidden constants o w, views_length (o + 4) ws) (sym (length-append (listing_line constants o w) (listing_lines constants (o + 4) ws)))

-- nothing hidden
pub all_shown : (constants o : ℕ) (ws : List ℕ) → view_lines (λ k. false) constants o ws ≡ listing_lines constants o ws
unfolding view_lines listing_lines
all_shown constants o [] = refl
all_shown constants o (w ∷ ws) = rw (view_shown (λ k. false) constants o w (and_false (leb constants o)), all_shown constants (o + 4) ws)

-- ---- the marks

module _ (marks : List ℕ) (constants o : ℕ) where
  pub before_constants : o < constants → hidden_half (marked marks) constants o ≡ false
  before_constants h = rw (lt-leb constants o h)

  pub marks_end : constants ≤ o → length marks ≤ (o - constants) / 8 → hidden_half (marked marks) constants o ≡ false
  marks_end h k = rw (le-leb constants o h, get_or-eq_default marks 0 k)

  pub marks_at : constants ≤ o → hidden_half (marked marks) constants o ≡ marked marks ((o - constants) / 8)
  marks_at h = rw (le-leb constants o h)

-- ---- from byte i on

abbrev pub lines_from : (constants : ℕ) → List ℕ → ℕ → List ℕ
lines_from constants s i = listing_lines constants i (words_of (drop i s))

abbrev pub views_from : (hidden : ℕ → Bool) → (constants : ℕ) → List ℕ → ℕ → List ℕ
views_from hidden constants s i = view_lines hidden constants i (words_of (drop i s))

abbrev pub first_from : (constants : ℕ) → List ℕ → ℕ → Option ℕ
first_from constants s i = foreign_from constants i (words_of (drop i s))

module _ (constants : ℕ) (s : List ℕ) (i : ℕ) where
  pub no_lines : length s < i + 4 → lines_from constants s i ≡ []
  unfolding listing_lines
  no_lines h = ap (listing_lines constants i) (no_words s i h)

  pub no_first : length s < i + 4 → first_from constants s i ≡ none
  unfolding foreign_from
  no_first h = ap (foreign_from constants i) (no_words s i h)

  pub more_lines : i + 4 ≤ length s → lines_from constants s i ≡ listing_line constants i (word_in s i) ++ lines_from constants s (i + 4)
  unfolding listing_lines
  more_lines h = ap (listing_lines constants i) (more_words s i h)

  first_at : i + 4 ≤ length s → first_from constants s i ≡ cond (foreign constants i (word_in s i)) (some i) (first_from constants s (i + 4))
  unfolding foreign_from
  first_at h = ap (foreign_from constants i) (more_words s i h)

module _ (hidden : ℕ → Bool) (constants : ℕ) (s : List ℕ) (i : ℕ) where
  pub no_views : length s < i + 4 → views_from hidden constants s i ≡ []
  unfolding view_lines
  no_views h = ap (view_lines hidden constants i) (no_words s i h)

  more_views : i + 4 ≤ length s → views_from hidden constants s i ≡ view_line hidden constants i (word_in s i) ++ views_from hidden constants s (i + 4)
  unfolding view_lines
  more_views h = ap (view_lines hidden constants i) (more_words s i h)

-- ---- a turn of the loops over the words

module _ (constants : ℕ) (s : List ℕ) (j : ℕ) where
  module _ (w : ℕ) (h : j < length s / 4) (e : w ≡ word_in s (4 * j)) where
    next_word : 4 * j + 4 ≡ 4 * (j + 1)
    next_word = omega arith

    pub lines_turn : length (lines_from constants s (4 * j)) ≡ length (listing_line constants (4 * j) w) + length (lines_from constants s (4 * (j + 1)))
    lines_turn =
        rw (e, ← next_word) (ap length (more_lines constants s (4 * j) (omega arith)) ∙ length-append (listing_line constants (4 * j) (word_in s (4 * j))) (lines_from constants s (4 * j + 4)))

    pub first_here : foreign constants (4 * j) w ≡ true → first_from constants s (4 * j) ≡ some (4 * j)
    first_here f = first_at constants s (4 * j) (omega arith) ∙ rw (← e, f)

    pub first_behind : foreign constants (4 * j) w ≡ false → first_from constants s (4 * j) ≡ first_from constants s (4 * (j + 1))
    first_behind f = first_at constants s (4 * j) (omega arith) ∙ rw (← e, f, next_word)

    pub views_turn : (hidden : ℕ → Bool) → views_from hidden constants s (4 * j) ≡ view_line hidden constants (4 * j) w ++ views_from hidden constants s (4 * (j + 1))
    views_turn hidden = more_views hidden constants s (4 * j) (omega arith) ∙ rw (← e, next_word)

  pub lines_end : length s / 4 ≤ j → lines_from constants s (4 * j) ≡ []
  lines_end h = no_lines constants s (4 * j) (omega arith)

  pub first_end : length s / 4 ≤ j → first_from constants s (4 * j) ≡ none
  first_end h = no_first constants s (4 * j) (omega arith)

  pub views_end : (hidden : ℕ → Bool) → length s / 4 ≤ j → views_from hidden constants s (4 * j) ≡ []
  views_end hidden h = no_views hidden constants s (4 * j) (omega arith)
