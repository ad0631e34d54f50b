-- One item more. Assumes nothing.
use mathlib.Core.Path.{◌≡◌, refl, sym, ap, ◌∙◌}
use mathlib.Core.Bool.{Bool, true, false, not}
use mathlib.Core.List.{List, [], ◌∷◌, ◌++◌, append-nil}
use mathlib.Core.Option.{Option, none, some}
use Prim.Native.Nat.{ℕ, ◌+◌, ◌*◌, ◌%◌, ◌^◌, ◌≤◌, ◌<◌}
use native.Mathlib.Nat.{add-zero, zero-add}
use native.Mathlib.Omega.{arith}
use borrow.Author.Tests.{ne_eqb, eqb-true, eqb-false}
use lib.Dec.{eqb}
use lib.ListN.{length, get_or, set, length-append, length-set}
use lib.Seq.{sets, length-sets, get_or-set_same, get_or-set_other}
use Rattle.assembler.specs.Item.{Item, label}
use Rattle.assembler.specs.Bytes.{written, room}
use Rattle.assembler.specs.Label.{is_set, with_place, one_more}
use Rattle.assembler.specs.Memory.{Jump, jumps_of}
use Rattle.assembler.proofs.Tags.{tags_of}
use Rattle.assembler.specs.State.{State}
use Rattle.assembler.specs.Put.{words, jumps, targets, times, with_word, with_jump, with_label}
use Rattle.assembler.specs.Resolved.{label_place, jumps_in}
use Rattle.assembler.proofs.Tests.{no}
use Rattle.assembler.proofs.Items.{words_append, jumps_append, targets_append}
use Rattle.assembler.proofs.Numbers.{times_append}
use Rattle.assembler.proofs.Writes.{written_append}
use Rattle.finish.proofs.Represents.{Represents, entry, entry_of}
use Rattle.finish.proofs.Append.{jumps_in_append, label_place_append, label_within, or_else}
use Rattle.finish.proofs.Noted.{jumps_noted, tags_noted}

eqb_false_of : (n : ℕ) → 1 ≤ n % 2 ^ 32 → not (eqb (n % 2 ^ 32) 0) ≡ false → ⊥
eqb_false_of n h e =
    let z : n % 2 ^ 32 ≡ 0 → ⊥ = λ q. omega arith in
    let f : true ≡ false = ap not (sym (ne_eqb (n % 2 ^ 32) 0 z)) ∙ e in
    no (sym f)

or_none : (o : Option ℕ) → or_else o none ≡ o
or_none none = refl
or_none (some p) = refl

-- the low half is the place's
pub low_half : (o : Option ℕ) (n : ℕ) → (entry o + 2 ^ 32 * n) % 2 ^ 32 ≡ entry o % 2 ^ 32
low_half none n = omega arith
low_half (some p) n = omega arith

-- the entries of items behind others
module _ (is : List Item) (i : Item) where
  times_behind : (l : ℕ) → times l (targets (is ++ (i ∷ []))) ≡ times l (targets is) + times l (targets (i ∷ []))
  times_behind l = ap (times l) (targets_append is (i ∷ [])) ∙ times_append l (targets is) (targets (i ∷ []))

  module _ (el : (l h : ℕ) → label_place l h (i ∷ []) ≡ none) where
    same_place : (l : ℕ) → label_place l 0 (is ++ (i ∷ [])) ≡ label_place l 0 is
    same_place l = label_place_append l 0 is (i ∷ []) ∙ ap (or_else (label_place l 0 is)) (el l (0 + 4 * length (words is))) ∙ or_none (label_place l 0 is)

    entry_behind : (l : ℕ) → entry_of (is ++ (i ∷ [])) l ≡ entry_of is l + 2 ^ 32 * times l (targets (i ∷ []))
    entry_behind l = omega (arith, ap entry (same_place l), times_behind l)

module _ (b : List ℕ) (is : List Item) (ts : List ℕ) (s : State) (a : Represents b is ts s) where
  next : (w : ℕ) → written s.buf s.asm.len (w ∷ []) ≡ written b 0 (words is ++ (w ∷ []))
  next w =
      let z : s.asm.len ≡ 0 + 4 * length (words is) = omega (arith, a.len) in
      rw (a.buf, z) (sym (written_append b 0 (words is) (w ∷ [])))

  -- an item with a word and nothing else
  module _ (i : Item) (w : ℕ) (ew : words (i ∷ []) ≡ w ∷ []) (ej : jumps (i ∷ []) ≡ 0) (en : (h : ℕ) → jumps_in h (i ∷ []) ≡ []) (el : (l h : ℕ) → label_place l h (i ∷ []) ≡ none) (et : targets (i ∷ []) ≡ []) (r : 4 * length (words is) + 4 ≤ room (length b)) where
    pub word_represents : Represents b (is ++ (i ∷ [])) ts (with_word w s)
    unfolding with_word
    word_represents =
        let e : words (is ++ (i ∷ [])) ≡ words is ++ (w ∷ []) = words_append is (i ∷ []) ∙ ap (λ (x : List ℕ). words is ++ x) ew in
        let n : length (words (is ++ (i ∷ []))) ≡ length (words is) + 1 = ap length e ∙ length-append (words is) (w ∷ []) in
        let j : jumps (is ++ (i ∷ [])) ≡ jumps is = jumps_append is (i ∷ []) ∙ ap (λ (x : ℕ). jumps is + x) ej ∙ add-zero (jumps is) in
        record {
          unclosed = a.unclosed;
          len = omega (arith, a.len, n);
          within = omega (arith, n);
          buf = next w ∙ ap (written b 0) (sym e);
          count = a.count ∙ sym j;
          few = omega (arith, a.few, j);
          noted = ap (jumps_of s.jumps 0) j ∙ a.noted ∙ sym (jumps_in_append 0 is (i ∷ []) ∙ ap (λ (x : List Jump). jumps_in 0 is ++ x) (en (0 + 4 * length (words is))) ∙ append-nil (jumps_in 0 is));
          tagged = ap (tags_of s.jumps 0) j ∙ a.tagged;
          wide_jumps = a.wide_jumps;
          set_labels = λ l h. omega (arith, a.set_labels l h, entry_behind is i el l, ap (times l) et);
          wide_labels = a.wide_labels;
        }

  -- a jump: a zero word, and one jump more with its tag
  pub jump_represents : (k l r tag : ℕ) (i : Item) → l < 2039 → targets (i ∷ []) ≡ l ∷ [] → words (i ∷ []) ≡ 0 ∷ [] → jumps (i ∷ []) ≡ 1 → ((h : ℕ) → jumps_in h (i ∷ []) ≡ record { word = h; label = l; reg = r; kind = k } ∷ []) → ((m h : ℕ) → label_place m h (i ∷ []) ≡ none)
      → 4 * length (words is) + 4 ≤ room (length b) → jumps is + 1 ≤ 4096 → Represents b (is ++ (i ∷ [])) (ts ++ (tag ∷ [])) (with_jump k l r tag s)
  unfolding with_jump
  jump_represents k l r tag i lt et ew ej en el q f =
      let e : words (is ++ (i ∷ [])) ≡ words is ++ (0 ∷ []) = words_append is (i ∷ []) ∙ ap (λ (x : List ℕ). words is ++ x) ew in
      let n : length (words (is ++ (i ∷ []))) ≡ length (words is) + 1 = ap length e ∙ length-append (words is) (0 ∷ []) in
      let j : jumps (is ++ (i ∷ [])) ≡ jumps is + 1 = jumps_append is (i ∷ []) ∙ ap (λ (x : ℕ). jumps is + x) ej in
      let g : 5 * s.asm.jumps + 5 ≤ length s.jumps = omega (arith, a.count, a.wide_jumps) in
      let c : jumps (is ++ (i ∷ [])) ≡ s.asm.jumps + 1 = omega (arith, j, a.count) in
      let after = sets s.jumps (5 * s.asm.jumps) (s.asm.len ∷ l ∷ r ∷ k ∷ tag ∷ []) in
      record {
        unclosed = a.unclosed;
        len = omega (arith, a.len, n);
        within = omega (arith, n);
        buf = next 0 ∙ ap (written b 0) (sym e);
        count = omega (arith, a.count, j);
        few = omega (arith, j);
        noted =
            ap (jumps_of after 0) c ∙ jumps_noted s.jumps s.asm.jumps s.asm.len l r k tag g
            ∙ rw (a.count, a.noted, a.len) (sym (jumps_in_append 0 is (i ∷ []) ∙ ap (λ (x : List Jump). jumps_in 0 is ++ x) (en (0 + 4 * length (words is))) ∙ rw zero-add));
        tagged =
            ap (tags_of after 0) c ∙ tags_noted s.jumps s.asm.jumps s.asm.len l r k tag g ∙ rw a.count (ap (λ (x : List ℕ). x ++ (tag ∷ [])) a.tagged);
        wide_jumps = length-sets s.jumps (5 * s.asm.jumps) (s.asm.len ∷ l ∷ r ∷ k ∷ tag ∷ []) ∙ a.wide_jumps;
        set_labels = λ m h. jump_entry m h (eqb m l) refl;
        wide_labels = length-set s.labels l (one_more (get_or s.labels l 0)) ∙ a.wide_labels;
      }
    where
      jump_entry : (m : ℕ) → m < 2039 → (t : Bool) → eqb m l ≡ t → get_or (set s.labels l (one_more (get_or s.labels l 0))) m 0 ≡ entry_of (is ++ (i ∷ [])) m
      jump_entry m h true e =
          let w = a.wide_labels in
          let z : m ≡ l = eqb-true m l e in
          let g : get_or (set s.labels l (one_more (get_or s.labels l 0))) m 0 ≡ one_more (get_or s.labels l 0) = rw z (get_or-set_same s.labels l (one_more (get_or s.labels l 0)) 0 (omega arith)) in
          let o : times m (l ∷ []) ≡ 1 = rw e in
          let n : get_or s.labels l 0 ≡ get_or s.labels m 0 = ap (λ (x : ℕ). get_or s.labels x 0) (sym z) in
          omega (arith, g, n, a.set_labels m h, entry_behind is i el m, ap (times m) et, o)
      jump_entry m h false e =
          let g = get_or-set_other s.labels l m (one_more (get_or s.labels l 0)) 0 (eqb-false m l e) in
          let o : times m (l ∷ []) ≡ 0 = rw e in
          omega (arith, g, a.set_labels m h, entry_behind is i el m, ap (times m) et, o)

  -- a label that is not set
  unset_none : (l : ℕ) → l < 2039 → is_set (get_or s.labels l 0) ≡ false → label_place l 0 is ≡ none
  unset_none l h e =
      by (label_place l 0 is) refl (rw (low_half (label_place l 0 is) (times l (targets is))) at (ap is_set (sym (a.set_labels l h)) ∙ e))
    where
      by : (o : Option ℕ) → label_place l 0 is ≡ o → is_set (entry o) ≡ false → o ≡ none
      by none q f = refl
      by (some p) q f =
          let k = label_within l 0 p is q in
          let w = a.within in
          absurd (eqb_false_of (p + 1) (omega arith) f)

  module _ (l : ℕ) (h : l < 2039) (u : is_set (get_or s.labels l 0) ≡ false) where
    same_words : words (is ++ (label l ∷ [])) ≡ words is
    unfolding words
    same_words = words_append is (label l ∷ []) ∙ append-nil (words is)

    same_jumps : jumps (is ++ (label l ∷ [])) ≡ jumps is
    unfolding jumps targets
    same_jumps = jumps_append is (label l ∷ []) ∙ add-zero (jumps is)

    same_noted : jumps_in 0 (is ++ (label l ∷ [])) ≡ jumps_in 0 is
    unfolding jumps_in
    same_noted = jumps_in_append 0 is (label l ∷ []) ∙ append-nil (jumps_in 0 is)

    same_targets : targets (is ++ (label l ∷ [])) ≡ targets is
    unfolding targets
    same_targets = targets_append is (label l ∷ []) ∙ append-nil (targets is)

    -- the entry of each label
    set_now : (m : ℕ) → m < 2039 → (t : Bool) → eqb l m ≡ t → get_or (set s.labels l (with_place (get_or s.labels l 0) s.asm.len)) m 0 ≡ entry_of (is ++ (label l ∷ [])) m
    unfolding label_place
    set_now m q true e =
        let w = a.wide_labels in
        let i = a.within in
        let z : l ≡ m = eqb-true l m e in
        let v : get_or s.labels l 0 ≡ 2 ^ 32 * times l (targets is) = omega (arith, a.set_labels l h, ap entry (unset_none l h u)) in
        let n : label_place m 0 is ≡ none = ap (λ (x : ℕ). label_place x 0 is) (sym z) ∙ unset_none l h u in
        let g : label_place m 0 (is ++ (label l ∷ [])) ≡ some (0 + 4 * length (words is)) = label_place_append m 0 is (label l ∷ []) ∙ rw (n, e) in
        let t : times m (targets (is ++ (label l ∷ []))) ≡ times l (targets is) = ap (times m) same_targets ∙ ap (λ (x : ℕ). times x (targets is)) (sym z) in
        ap (λ (x : ℕ). get_or (set s.labels l (with_place (get_or s.labels l 0) s.asm.len)) x 0) (sym z)
        ∙ get_or-set_same s.labels l (with_place (get_or s.labels l 0) s.asm.len) 0 (omega arith)
        ∙ omega (arith, v, a.len, ap entry g, t)
    set_now m q false e =
        let d : m ≡ l → ⊥ = λ x. eqb-false l m e (sym x) in
        let g : label_place m 0 (is ++ (label l ∷ [])) ≡ label_place m 0 is = label_place_append m 0 is (label l ∷ []) ∙ rw e (or_none (label_place m 0 is)) in
        get_or-set_other s.labels l m (with_place (get_or s.labels l 0) s.asm.len) 0 d
        ∙ omega (arith, a.set_labels m q, ap entry g, ap (times m) same_targets)

    pub label_represents : Represents b (is ++ (label l ∷ [])) ts (with_label l s)
    unfolding with_label
    label_represents = record {
      unclosed = a.unclosed;
      len = a.len ∙ ap (λ (x : List ℕ). 4 * length x) (sym same_words);
      within = rw same_words a.within;
      buf = a.buf ∙ ap (written b 0) (sym same_words);
      count = a.count ∙ sym same_jumps;
      few = rw same_jumps a.few;
      noted = ap (jumps_of s.jumps 0) same_jumps ∙ a.noted ∙ sym same_noted;
      tagged = ap (tags_of s.jumps 0) same_jumps ∙ a.tagged;
      wide_jumps = a.wide_jumps;
      set_labels = λ m q. set_now m q (eqb l m) refl;
      wide_labels = length-set s.labels l (with_place (get_or s.labels l 0) s.asm.len) ∙ a.wide_labels;
    }
