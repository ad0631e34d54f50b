-- How many words the pieces have, their labels and where their jumps go, by the tests of the code. Assumes nothing.
use mathlib.Core.Path.{◌≡◌, refl, sym, ap, ◌∙◌}
use mathlib.Core.Bool.{Bool, true, false, cond}
use mathlib.Core.List.{List, [], ◌∷◌, ◌++◌, map}
use Prim.Native.Nat.{ℕ, zero, suc, ◌+◌, ◌*◌, ◌<◌, ◌≤◌}
use native.Mathlib.Omega.{arith}
use borrow.Author.Tests.{lt-ltb, le-ltb, le-leb, lt-leb, eq-eqb, ne_eqb, ltb-true, ltb-false, eqb-true, eqb-false}
use lib.Dec.{eqb, ltb}
use lib.IntN.{pos, neg_ℤ}
use lib.ListN.{length, length-append, length-map}
use lib.Signed.{mag}
use Rattle.isa.specs.Instr.{Instr, R, ADD}
use Rattle.assembler.specs.Item.{Item, jump, label}
use Rattle.assembler.specs.State.{State}
use Rattle.assembler.specs.Put.{words, targets, labels, verdict, put_number}
use Rattle.assembler.specs.Plan.{earlier, sets_fault}
use Rattle.assembler.specs.declared.JumpKind.TheVariants.{Bne}
use Rattle.assembler.proofs.Items.{words_append, targets_append, labels_append, targets_instrs, labels_instrs}
use Rattle.accesses.specs.Code.{li_code, sub_stack_code, allocate_stack_code}
use Rattle.accesses.proofs.Collect.{li_near, li_far}
use Rattle.accesses.proofs.Lengths.{li_length}
use Rattle.ast.specs.Mask.{saved}
use Rattle.frame_code.specs.Items.{code, count_down, times_over, repeated, reload, reloads, at_success, at_epilogue}
use Rattle.frame_code.specs.Inner.Copies.{copy_first, copy_each, copy_label, copies}
use Rattle.frames.specs.Inner.Whole.{looped}
use Rattle.frame_code.proofs.Count.{over_length}
use Rattle.frames.proofs.Parts.{words_code}

-- ---- li and stack sizes

pub li_one : (d n : ℕ) → n < 2048 → 1 ≡ length (li_code d (pos n))
li_one d n h = ap length (li_near d (pos n) h)

pub li_two : (d n : ℕ) → 2048 ≤ n → 2 ≡ length (li_code d (pos n))
li_two d n h = ap length (li_far d (pos n) h)

pub sub_near : (n : ℕ) → n < 2048 → 1 ≡ length (sub_stack_code n)
unfolding sub_stack_code
sub_near n h = rw (lt-ltb n 2048 h)

pub sub_edge : (n : ℕ) → n ≡ 2048 → 2 ≡ length (sub_stack_code n)
unfolding sub_stack_code li_code
sub_edge n e = rw e

below : (n : ℕ) → 2048 < n → 2048 ≤ mag (neg_ℤ (pos n))
below zero h = absurd (omega arith)
below (suc n) h = omega arith

pub sub_far : (n : ℕ) → 2048 < n → 3 ≡ length (sub_stack_code n)
unfolding sub_stack_code
sub_far n h = rw (le-ltb n 2048 (omega arith), ← li_far 5 (neg_ℤ (pos n)) (below n h))

pub allocate_near : (n : ℕ) → n < 2048 → 2 ≡ length (allocate_stack_code n)
unfolding allocate_stack_code
allocate_near n h = rw (lt-ltb n 2048 h)

pub allocate_far : (n : ℕ) → 2048 ≤ n → 4 ≡ length (allocate_stack_code n)
unfolding allocate_stack_code
allocate_far n h = rw (le-ltb n 2048 h, ← li_far 5 (pos n) h)

-- ---- copies

pub six : (out : Bool) → length (copy_each out) ≡ 6
six true = refl
six false = refl

pub first_out : (m : ℕ) → length (li_code 6 (pos (8 * m))) + 1 ≡ length (copy_first true m)
first_out m = sym (length-append (li_code 6 (pos (8 * m))) (R ADD 6 6 9 ∷ []))

pub first_few : (out : Bool) (m : ℕ) → length (copy_first out m) ≤ 12
first_few true m = omega (arith, first_out m, li_length 6 (pos (8 * m)))
first_few false m = omega arith

pub each_few : (out : Bool) → length (copy_each out) ≤ 12
each_few out = omega (arith, six out)

a_label : (out : Bool) → earlier 0 (sets_fault (copy_label out ∷ [])) ≡ 0
a_label true = refl
a_label false = refl

pub copy_label_is : (out : Bool) → copy_label out < 2039
copy_label_is true = omega arith
copy_label_is false = omega arith

module _ (out : Bool) (m n : ℕ) where
  pub row_length : length (times_over n (copy_each out)) ≡ 6 * n
  row_length = over_length (λ x. x) 0 0 0 [] (copy_each out) (six out) n

  pub none_are : n ≡ 0 → copies out m n ≡ []
  unfolding repeated
  none_are e = rw (eq-eqb n 0 e)

  pub few_are : (n ≡ 0 → ⊥) → n ≤ 16 → copies out m n ≡ code (copy_first out m ++ times_over n (copy_each out))
  unfolding repeated
  few_are e h = rw (ne_eqb n 0 e, le-leb n 16 h)

  pub many_are : 16 < n → copies out m n ≡ looped out m n
  unfolding repeated looped
  many_are h = let e : n ≡ 0 → ⊥ = λ z. omega arith in rw (ne_eqb n 0 e, lt-leb n 16 h)

  abbrev straight : List Instr
  straight = copy_first out m ++ times_over n (copy_each out)

  abbrev start : List Instr
  start = copy_first out m ++ li_code 7 (pos n)

  abbrev inner : List Item
  inner = code (copy_each out ++ (count_down ∷ [])) ++ (jump Bne (copy_label out) 0 ∷ [])

  pub straight_words : length (words (code straight)) ≡ length (copy_first out m) + 6 * n
  straight_words = words_code straight ∙ length-append (copy_first out m) (times_over n (copy_each out)) ∙ ap (λ (k : ℕ). length (copy_first out m) + k) row_length

  inner_words : length (words inner) ≡ 8
  unfolding words
  inner_words =
      ap length (words_append (code (copy_each out ++ (count_down ∷ []))) (jump Bne (copy_label out) 0 ∷ []))
      ∙ length-append (words (code (copy_each out ++ (count_down ∷ [])))) (0 ∷ [])
      ∙ omega (arith, words_code (copy_each out ++ (count_down ∷ [])), length-append (copy_each out) (count_down ∷ []), six out)

  pub looped_words : length (words (looped out m n)) ≡ length (copy_first out m) + length (li_code 7 (pos n)) + 8
  unfolding looped words
  looped_words =
      ap length (words_append (code start) (label (copy_label out) ∷ inner))
      ∙ length-append (words (code start)) (words inner)
      ∙ omega (arith, words_code start, length-append (copy_first out m) (li_code 7 (pos n)), inner_words)

  looped_targets : targets (looped out m n) ≡ copy_label out ∷ []
  unfolding looped targets
  looped_targets =
      targets_append (code start) (label (copy_label out) ∷ inner)
      ∙ rw (targets_instrs start, targets_append (code (copy_each out ++ (count_down ∷ []))) (jump Bne (copy_label out) 0 ∷ []), targets_instrs (copy_each out ++ (count_down ∷ [])))

  looped_labels : labels (looped out m n) ≡ copy_label out ∷ []
  unfolding looped labels
  looped_labels =
      labels_append (code start) (label (copy_label out) ∷ inner)
      ∙ rw (labels_instrs start, labels_append (code (copy_each out ++ (count_down ∷ []))) (jump Bne (copy_label out) 0 ∷ []), labels_instrs (copy_each out ++ (count_down ∷ [])))

  pub copies_targets : targets (copies out m n) ≡ cond (ltb 16 n) (copy_label out ∷ []) []
  unfolding targets
  copies_targets = by (ltb 16 n) refl (eqb n 0) refl
    where
      by : (b : Bool) → ltb 16 n ≡ b → (z : Bool) → eqb n 0 ≡ z → targets (copies out m n) ≡ cond b (copy_label out ∷ []) []
      by true e z q = ap targets (many_are (ltb-true 16 n e)) ∙ looped_targets
      by false e true q = ap targets (none_are (eqb-true n 0 q))
      by false e false q = ap targets (few_are (eqb-false n 0 q) (ltb-false 16 n e)) ∙ targets_instrs straight

  pub copies_labels : labels (copies out m n) ≡ cond (ltb 16 n) (copy_label out ∷ []) []
  unfolding labels
  copies_labels = by (ltb 16 n) refl (eqb n 0) refl
    where
      by : (b : Bool) → ltb 16 n ≡ b → (z : Bool) → eqb n 0 ≡ z → labels (copies out m n) ≡ cond b (copy_label out ∷ []) []
      by true e z q = ap labels (many_are (ltb-true 16 n e)) ∙ looped_labels
      by false e true q = ap labels (none_are (eqb-true n 0 q))
      by false e false q = ap labels (few_are (eqb-false n 0 q) (ltb-false 16 n e)) ∙ labels_instrs straight

  -- ---- the numbers of copies

  pub looped_number : (l x y : ℕ) (s : State) → l ≡ copy_label out → x ≡ length (copy_first out m) → y ≡ length (li_code 7 (pos n))
      → verdict (earlier 0 (sets_fault (l ∷ []))) (l ∷ []) (l ∷ []) (x + y + 8) s ≡ put_number 0 (looped out m n) s
  looped_number l x y s e f g = rw (looped_words, looped_targets, looped_labels, e, f, g, a_label out)

-- code alone
pub code_number : (is : List Instr) (w : ℕ) (s : State) → w ≡ length is → verdict 0 [] [] w s ≡ put_number 0 (code is) s
code_number is w s e = rw (words_code is, targets_instrs is, labels_instrs is, e)

module _ (out : Bool) (m n : ℕ) where
  pub straight_number : (w : ℕ) (s : State) → w ≡ length (copy_first out m) → verdict 0 [] [] (w + 6 * n) s ≡ put_number 0 (code (copy_first out m ++ times_over n (copy_each out))) s
  straight_number w s e = code_number (copy_first out m ++ times_over n (copy_each out)) (w + 6 * n) s (ap (λ (k : ℕ). k + 6 * n) e ∙ sym (length-append (copy_first out m) (times_over n (copy_each out)) ∙ ap (λ (k : ℕ). length (copy_first out m) + k) (row_length out m n)))

-- labels, a word, and the reloads
pub reload_number : (mask n : ℕ) (s : State) → n ≡ length (saved mask)
    → verdict 0 (at_success ∷ at_epilogue ∷ []) [] (1 + n) s ≡ put_number 0 (reloads mask) s
unfolding reloads words targets labels
reload_number mask n s g =
    let is = map reload (saved mask) in
    let w : 1 + n ≡ suc (length (words (code is))) = omega (arith, words_code is, length-map (saved mask) reload, g) in
    rw (targets_instrs is, labels_instrs is, w)
