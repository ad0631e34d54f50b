-- The attendant's text is the maintainer's outside the hidden digits. Assumes nothing.
use mathlib.Core.Path.{◌≡◌, refl, sym, ap, ◌∙◌}
use mathlib.Core.Bool.{Bool, true, false, cond}
use mathlib.Core.List.{List, [], ◌∷◌, ◌++◌, append_assoc}
use Prim.Native.Nat.{ℕ, zero, suc, ◌+◌, ◌-◌, ◌≤◌}
use native.Mathlib.Omega.{arith}
use borrow.Author.Tests.{leb-true}
use lib.Dec.{leb}
use lib.ListN.{length, replicate, length-append, length-replicate}
use Rattle.base.proofs.Bools.{both}
use Rattle.refusal.specs.Answer.{Answer, accepted, refused}
use Rattle.text.specs.Ascii.{bytes}
use Rattle.text.specs.Digits.{decimal, digits}
use Rattle.reading.specs.Program.{Program}
use Rattle.call.specs.Layout.{constants_offset, routine_words}
use Rattle.assembler.specs.Bytes as Code
use Rattle.routine.specs.Routine.{program_of}
use Rattle.print.specs.Text.{words_of, hex}
use Rattle.print.specs.Listing.{data_line, listing_line, listing_lines, hidden_line, hidden_half, view_line, view_lines}
use Rattle.print.proofs.Listings.{data_at, length_data_line, view_hidden, view_shown, views_length}
use Rattle.listing.specs.Views.{hidden_in, program_view, deck_view, line_flags, lines_flags, hidden_digits, veiled, SameBut}
use Rattle.listing.specs.declared.View.TheVariants.{Maintainer, Attendant}
use Rattle.listing.proofs.Deck.{plain_lines}

-- ---- hyphens

none_veiled : (n : ℕ) (bs : List ℕ) → veiled (replicate n false) bs ≡ bs
unfolding veiled
none_veiled zero bs = refl
none_veiled (suc n) [] = refl
none_veiled (suc n) (b ∷ bs) = ap (λ (s : List ℕ). b ∷ s) (none_veiled n bs)

veiled_append : (ms ns : List Bool) (bs cs : List ℕ) → length ms ≡ length bs → veiled (ms ++ ns) (bs ++ cs) ≡ veiled ms bs ++ veiled ns cs
unfolding veiled
veiled_append [] ns [] cs e = refl
veiled_append [] ns (b ∷ bs) cs e = absurd (omega arith)
veiled_append (m ∷ ms) ns [] cs e = absurd (omega arith)
veiled_append (m ∷ ms) ns (b ∷ bs) cs e = ap (λ (s : List ℕ). cond m 45 b ∷ s) (veiled_append ms ns bs cs (omega arith))

-- ---- a line

flags_length : (h : Bool) (n : ℕ) → (h ≡ true → 9 ≤ n) → length (line_flags h n) ≡ n
flags_length false n f = length-replicate n false
flags_length true n f = omega (arith, f refl, length-append (replicate (n - 9) false) (replicate 8 true ++ (false ∷ [])), length-replicate (n - 9) false)

-- what stands before the digits
abbrev front : ℕ → List ℕ
front o = decimal o ++ bytes ",data,"

data_parts : (o w : ℕ) → data_line o w ≡ front o ++ (hex w ++ (10 ∷ []))
unfolding data_line
data_parts o w = sym (append_assoc (decimal o) (bytes ",data,") (hex w ++ (10 ∷ [])))

digits_veiled : (w : ℕ) → veiled (replicate 8 true ++ (false ∷ [])) (hex w ++ (10 ∷ [])) ≡ bytes "--------" ++ (10 ∷ [])
unfolding veiled digits
digits_veiled w = refl

data_veiled : (o w : ℕ) → veiled (line_flags true (length (data_line o w))) (data_line o w) ≡ hidden_line o
unfolding hidden_line
data_veiled o w =
    let n : length (data_line o w) - 9 ≡ length (front o) = omega (arith, length_data_line o w, length-append (decimal o) (bytes ",data,")) in
    rw (n, data_parts o w)
    (veiled_append (replicate (length (front o)) false) (replicate 8 true ++ (false ∷ [])) (front o) (hex w ++ (10 ∷ [])) (length-replicate (length (front o)) false)
    ∙ rw (none_veiled (length (front o)) (front o), digits_veiled w) (append_assoc (decimal o) (bytes ",data,") (bytes "--------" ++ (10 ∷ []))))

module _ (hidden : ℕ → Bool) (constants o w : ℕ) where
  -- a hidden word is a constant's
  hidden_data : hidden_half hidden constants o ≡ true → listing_line constants o w ≡ data_line o w
  hidden_data e = data_at constants o w (leb-true constants o (both (leb constants o) _ e).0)

  line_veiled : view_line hidden constants o w ≡ veiled (line_flags (hidden_half hidden constants o) (length (listing_line constants o w))) (listing_line constants o w)
  line_veiled = by (hidden_half hidden constants o) refl
    where
      by : (t : Bool) → hidden_half hidden constants o ≡ t → view_line hidden constants o w ≡ veiled (line_flags t (length (listing_line constants o w))) (listing_line constants o w)
      by true e = view_hidden hidden constants o w e ∙ rw (hidden_data e) (sym (data_veiled o w))
      by false e = view_shown hidden constants o w e ∙ sym (none_veiled (length (listing_line constants o w)) (listing_line constants o w))

  line_flagged : length (line_flags (hidden_half hidden constants o) (length (listing_line constants o w))) ≡ length (listing_line constants o w)
  line_flagged = flags_length (hidden_half hidden constants o) (length (listing_line constants o w)) (λ e. omega (arith, ap length (hidden_data e), length_data_line o w))

-- ---- all lines

lines_veiled : (hidden : ℕ → Bool) (constants o : ℕ) (ws : List ℕ) → view_lines hidden constants o ws ≡ veiled (lines_flags hidden constants o ws) (listing_lines constants o ws)
unfolding view_lines listing_lines lines_flags veiled
lines_veiled hidden constants o [] = refl
lines_veiled hidden constants o (w ∷ ws) =
    rw (line_veiled hidden constants o w, lines_veiled hidden constants (o + 4) ws)
    (sym (veiled_append (line_flags (hidden_half hidden constants o) (length (listing_line constants o w))) (lines_flags hidden constants (o + 4) ws) (listing_line constants o w) (listing_lines constants (o + 4) ws) (line_flagged hidden constants o w)))

-- ---- a file

pub same_but : SameBut
unfolding deck_view veiled
same_but file = by (program_of 65536 file)
  where
    by : (a : Answer Program) → (program_view Attendant a ≡ veiled (hidden_digits a) (program_view Maintainer a)) × (length (program_view Attendant a) ≡ length (program_view Maintainer a))
    by (accepted p) =
        let ws = words_of (Code.bytes (routine_words p)) in
        let c = constants_offset p in
        let h = hidden_in Attendant p.lines in
        let m : program_view Maintainer (accepted p) ≡ listing_lines c 0 ws = plain_lines p in
        (lines_veiled h c 0 ws ∙ ap (veiled (lines_flags h c 0 ws)) (sym m), views_length h c 0 ws ∙ ap length (sym m))
    by (refused n line) = (refl, refl)
