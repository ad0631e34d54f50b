-- WHAT THE ATTENDANT CAN'T SEE: digits of `bits` lines alter neither the text nor what the routine tells. Assumes nothing.
use mathlib.Core.Path.{◌≡◌, refl, sym, ap, ◌∙◌, fun_ext}
use mathlib.Core.Bool.{Bool, true}
use mathlib.Core.List.{List, [], ◌∷◌, ◌++◌, map, flat_map, append_assoc}
use Prim.Native.Nat.{ℕ, zero, suc, ◌+◌, ◌*◌, ◌-◌, ◌/◌, ◌%◌, ◌^◌, ◌≤◌}
use native.Mathlib.Nat.{zero-add}
use native.Mathlib.Omega.{arith}
use borrow.Author.Tests.{le-leb}
use lib.Dec.{leb}
use lib.ListN.{length}
use Rattle.base.proofs.Bools.{join}
use Rattle.refusal.specs.Answer.{Answer, accepted, refused}
use Rattle.ast.specs.Constant.{constant_bits}
use Rattle.ast.specs.declared.Constant.TheVariants.{Float, Bits}
use Rattle.reading.specs.Line.{Line, order, constant}
use Rattle.reading.specs.Program.{Program, constants}
use Rattle.assembler.specs.Bytes.{bytes}
use Rattle.call.specs.Layout.{constants_offset, routine_words, place}
use Rattle.call.proofs.Items.{resolved_length}
use Rattle.call.proofs.Padding.{front_items, front_span}
use Rattle.routine.specs.Routine.{program_of, summary_of, summary_answer}
use Rattle.correctness.proofs.Unread.{blank_line, blank, blanked, zeroed, zeroed_bits, code_words, code_words_blank, offset_blank, summary_blank, halves, words_split, program_blanked}
use Rattle.print.specs.Text.{le_word, words_of}
use Rattle.print.specs.Listing.{hidden_half, view_line, view_lines}
use Rattle.print.proofs.Listings.{view_hidden}
use Rattle.listing.specs.Views.{hidden_in, program_view, deck_view}
use Rattle.listing.specs.Unseen.{Alike, end, same_line, other_digits, Unseen}
use Rattle.listing.specs.declared.View.TheVariants.{Attendant}

-- ---- the files

pub alike_zeroed : {ts us : List (List ℕ)} → Alike ts us → map zeroed ts ≡ map zeroed us
alike_zeroed end = refl
alike_zeroed (same_line line a) = ap (λ (s : List (List ℕ)). zeroed line ∷ s) (alike_zeroed a)
alike_zeroed (other_digits m n h k a) = rw (zeroed_bits m h, zeroed_bits n k, alike_zeroed a)

-- ---- words and their lines, one list behind the other

words_append : (cs ds : List ℕ) → words_of (bytes (cs ++ ds)) ≡ words_of (bytes cs) ++ words_of (bytes ds)
unfolding words_of bytes flat_map
words_append [] ds = refl
words_append (c ∷ cs) ds = rw (words_append cs ds)

words_count : (cs : List ℕ) → length (words_of (bytes cs)) ≡ length cs
unfolding words_of bytes flat_map
words_count [] = refl
words_count (c ∷ cs) = ap suc (words_count cs)

views_append : (hidden : ℕ → Bool) (constants o : ℕ) (ws vs : List ℕ) → view_lines hidden constants o (ws ++ vs) ≡ view_lines hidden constants o ws ++ view_lines hidden constants (o + 4 * length ws) vs
unfolding view_lines
views_append hidden constants o [] vs = let e : o ≡ o + 0 = omega arith in ap (λ (n : ℕ). view_lines hidden constants n vs) e
views_append hidden constants o (w ∷ ws) vs =
    let e : o + 4 + 4 * length ws ≡ o + 4 * suc (length ws) = omega arith in
    rw (views_append hidden constants (o + 4) ws vs, e) (sym (append_assoc (view_line hidden constants o w) (view_lines hidden constants (o + 4) ws) (view_lines hidden constants (o + 4 * suc (length ws)) vs)))

-- ---- the constants' lines

hidden_blank : (ls : List Line) (k : ℕ) → hidden_in Attendant (map blank_line ls) k ≡ hidden_in Attendant ls k
unfolding hidden_in
hidden_blank [] k = refl
hidden_blank (order o ∷ ls) k = hidden_blank ls k
hidden_blank (constant (Float x) ∷ ls) zero = refl
hidden_blank (constant (Float x) ∷ ls) (suc k) = hidden_blank ls k
hidden_blank (constant (Bits b) ∷ ls) zero = refl
hidden_blank (constant (Bits b) ∷ ls) (suc k) = hidden_blank ls k

-- constants' words, and their lines
abbrev data_words : List ℕ → List ℕ
data_words bs = words_of (bytes (halves bs))

abbrev data_lines : (hidden : ℕ → Bool) → (constants o : ℕ) → List ℕ → List ℕ
data_lines hidden constants o bs = view_lines hidden constants o (data_words bs)

-- a hidden half's line is the same for all words
half_hidden : (hidden : ℕ → Bool) (c j : ℕ) → hidden j ≡ true → (o w v : ℕ) → c + 8 * j ≤ o → o ≤ c + 8 * j + 4 → view_line hidden c o w ≡ view_line hidden c o v
half_hidden hidden c j e o w v a b =
    let q : (o - c) / 8 ≡ j = omega arith in
    let h : hidden_half hidden c o ≡ true = join (leb c o) (hidden ((o - c) / 8)) (le-leb c o (omega arith)) (ap hidden q ∙ e) in
    view_hidden hidden c o w h ∙ sym (view_hidden hidden c o v h)

-- a word from its bytes
abbrev back : ℕ → ℕ
back w = le_word (w % 256) (w / 2 ^ 8 % 256) (w / 2 ^ 16 % 256) (w / 2 ^ 24 % 256)

-- the flags behind the first constant, and the lines behind it
next : (hidden : ℕ → Bool) (j i : ℕ) (t : Bool) → hidden (j + suc i) ≡ t → hidden (suc j + i) ≡ t
next hidden j i t e = let q : suc j + i ≡ j + suc i = omega arith in rw q e

further : (hidden : ℕ → Bool) (c j : ℕ) (ws vs : List ℕ) → view_lines hidden c (c + 8 * suc j) ws ≡ view_lines hidden c (c + 8 * suc j) vs → view_lines hidden c (c + 8 * j + 4 + 4) ws ≡ view_lines hidden c (c + 8 * j + 4 + 4) vs
further hidden c j ws vs e = let q : c + 8 * suc j ≡ c + 8 * j + 4 + 4 = omega arith in rw q at e

all_same : {a b c x y z : List ℕ} → a ≡ x → b ≡ y → c ≡ z → a ++ (b ++ c) ≡ x ++ (y ++ z)
all_same p q r = rw (p, q, r)

data_blank : (hidden : ℕ → Bool) (c j : ℕ) (ls : List Line) → ((i : ℕ) → hidden (j + i) ≡ hidden_in Attendant ls i)
    → data_lines hidden c (c + 8 * j) (constants (map blank_line ls)) ≡ data_lines hidden c (c + 8 * j) (constants ls)
unfolding view_lines words_of bytes flat_map halves constants hidden_in
data_blank hidden c j [] h = refl
data_blank hidden c j (order o ∷ ls) h = data_blank hidden c j ls h
data_blank hidden c j (constant (Float x) ∷ ls) h =
    let r = further hidden c j (data_words (constants (map blank_line ls))) (data_words (constants ls)) (data_blank hidden c (suc j) ls (λ i. next hidden j i (hidden_in Attendant ls i) (h (suc i)))) in
    let b = constant_bits (Float x) in
    ap (λ (rest : List ℕ). view_line hidden c (c + 8 * j) (back (b % 2 ^ 32)) ++ (view_line hidden c (c + 8 * j + 4) (back (b / 2 ^ 32)) ++ rest)) r
data_blank hidden c j (constant (Bits b) ∷ ls) h =
    let z : j + 0 ≡ j = omega arith in
    let t : hidden j ≡ true = rw z at (h 0) in
    let r = further hidden c j (data_words (constants (map blank_line ls))) (data_words (constants ls)) (data_blank hidden c (suc j) ls (λ i. next hidden j i (hidden_in Attendant ls i) (h (suc i)))) in
    let x = half_hidden hidden c j t (c + 8 * j) 0 (back (b % 2 ^ 32)) (omega arith) (omega arith) in
    let y = half_hidden hidden c j t (c + 8 * j + 4) 0 (back (b / 2 ^ 32)) (omega arith) (omega arith) in
    all_same x y r

-- ---- a program

abbrev program_lines : (hidden : ℕ → Bool) → Program → List ℕ
program_lines hidden p = view_lines hidden (constants_offset p) 0 (words_of (bytes (routine_words p)))

view_split : (hidden : ℕ → Bool) (p : Program) → program_lines hidden p
    ≡ view_lines hidden (constants_offset p) 0 (words_of (bytes (code_words p))) ++ data_lines hidden (constants_offset p) (constants_offset p) (constants p.lines)
view_split hidden p =
    let c = constants_offset p in
    let n : 0 + 4 * length (words_of (bytes (code_words p))) ≡ c = omega (arith, words_count (code_words p), resolved_length (place p) 0 (front_items p), front_span p) in
    ap (λ (ws : List ℕ). view_lines hidden c 0 (words_of (bytes ws))) (words_split p)
    ∙ ap (view_lines hidden c 0) (words_append (code_words p) (halves (constants p.lines)))
    ∙ views_append hidden c 0 (words_of (bytes (code_words p))) (words_of (bytes (halves (constants p.lines))))
    ∙ ap (λ (o : ℕ). view_lines hidden c 0 (words_of (bytes (code_words p))) ++ data_lines hidden c o (constants p.lines)) n

view_blank : (p : Program) → program_view Attendant (accepted (blank p)) ≡ program_view Attendant (accepted p)
view_blank p =
    let ls = p.lines in
    let h = hidden_in Attendant ls in
    let c = constants_offset p in
    let z : c + 8 * 0 ≡ c = omega arith in
    let d : data_lines h c c (constants (map blank_line ls)) ≡ data_lines h c c (constants ls) = rw z at (data_blank h c 0 ls (λ i. ap h (zero-add i))) in
    ap (λ (f : ℕ → Bool). program_lines f (blank p)) (fun_ext (hidden_blank ls))
    ∙ view_split h (blank p)
    ∙ ap (λ (k : ℕ). view_lines h k 0 (words_of (bytes (code_words (blank p)))) ++ data_lines h k k (constants (map blank_line ls))) (offset_blank p)
    ∙ ap (λ (ws : List ℕ). view_lines h c 0 (words_of (bytes ws)) ++ data_lines h c c (constants (map blank_line ls))) (code_words_blank p)
    ∙ ap (λ (ds : List ℕ). view_lines h c 0 (words_of (bytes (code_words p))) ++ ds) d
    ∙ sym (view_split h p)

-- ---- the claim

pub unseen : Unseen
unfolding deck_view
unseen file file' a = by (program_of 65536 file) (program_of 65536 file') (program_blanked 65536 file file' (alike_zeroed a))
  where
    by : (a b : Answer Program) → blanked a ≡ blanked b → (program_view Attendant a ≡ program_view Attendant b) × (summary_answer a ≡ summary_answer b)
    by (accepted p) (accepted q) e =
        let b : blank p ≡ blank q = cc in (
          sym (view_blank p) ∙ ap (λ (r : Program). program_view Attendant (accepted r)) b ∙ view_blank q,
          ap accepted (sym (summary_blank p) ∙ ap summary_of b ∙ summary_blank q),
        )
    by (accepted p) (refused n l) e = let z : ◌≡◌ {A = ℕ} 0 1 = cc in absurd (omega arith)
    by (refused n l) (accepted p) e = let z : ◌≡◌ {A = ℕ} 0 1 = cc in absurd (omega arith)
    by (refused n l) (refused m k) e = let x : n ≡ m = cc in let y : l ≡ k = cc in (rw (x, y), rw (x, y))
