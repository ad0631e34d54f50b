-- Over a state that items were placed in, an order is refused exactly where the plain definition refuses it. Assumes nothing.
use mathlib.Core.Path.{◌≡◌, refl, sym, ap, ap₂, ◌∙◌}
use mathlib.Core.Bool.{Bool, true, false, not, ◌&&◌, ◌||◌, cond}
use mathlib.Core.List.{List, [], ◌∷◌, ◌++◌}
use mathlib.Core.Option.{Option, none, some}
use Prim.Native.Nat.{ℕ, suc, ◌+◌, ◌*◌, ◌%◌, ◌^◌, ◌≤◌, ◌<◌}
use native.Mathlib.Omega.{arith}
use borrow.Author.Tests.{eqb-true, eqb-false, eq-eqb, ne_eqb, leb-true, leb-false, lt-leb}
use lib.Dec.{eqb, leb}
use lib.ListN.{length, get_or}
use Rattle.base.specs.Tests.{member}
use Rattle.base.proofs.Each.{Each}
use Rattle.base.proofs.Bools.{and_false, join}
use Rattle.assembler.specs.Item.{Item, instr, raw, jump, label}
use Rattle.assembler.specs.Bytes.{room}
use Rattle.assembler.specs.Label.{is_set, made}
use Rattle.assembler.specs.State.{State, sound, fits}
use Rattle.assembler.specs.Put.{words, jumps, targets, labels, twice, times, number_holds, numbers_sound, numbers_fit, ranked, put_number}
use Rattle.assembler.specs.Resolved.{label_place}
use Rattle.assembler.proofs.Items.{jumps_append}
use Rattle.assembler.proofs.Numbers.{all_is, holds_is}
use Rattle.assembler.proofs.Writes.{length_written}
use Rattle.finish.proofs.Represents.{Represents, Labelled, entry}
use Rattle.finish.proofs.Append.{label_within}
use Rattle.finish.proofs.Each.{low_half}
use Rattle.finish.proofs.All.{jumps_are}
use Rattle.finish.proofs.Both.{sound_is}
use Rattle.call.specs.Layout.{span}
use Rattle.call.proofs.Items.{span_append}
use Rattle.routine.specs.Routine.{shared, room_number}

pub span_words : (is : List Item) → 4 * length (words is) ≡ span is
unfolding words span
span_words [] = refl
span_words (instr i ∷ is) = omega (arith, span_words is)
span_words (raw w ∷ is) = omega (arith, span_words is)
span_words (jump k l r ∷ is) = omega (arith, span_words is)
span_words (label l ∷ is) = span_words is

-- ---- labels

-- none comes twice
abbrev pub Once : List ℕ → Type 0
Once [] = Unit {0}
Once (l ∷ ls) = (member l ls ≡ false) × Once ls

pub labelled_each : (is : List Item) → Labelled is → Each (λ l. l < 2039) (labels is)
unfolding labels
labelled_each [] h = tt
labelled_each (instr i ∷ is) h = labelled_each is h
labelled_each (raw w ∷ is) h = labelled_each is h
labelled_each (jump k l r ∷ is) h = labelled_each is h.1
labelled_each (label l ∷ is) h = (h.0, labelled_each is h.1)

-- jumps go to labels
targets_low : (is : List Item) → Labelled is → (l : ℕ) → 0 < times l (targets is) → l < 2039
unfolding targets
targets_low [] h l k = absurd (omega arith)
targets_low (instr i ∷ is) h l k = targets_low is h l k
targets_low (raw w ∷ is) h l k = targets_low is h l k
targets_low (jump c m r ∷ is) h l k = by (eqb l m) refl k (targets_low is h.1 l)
  where
    by : (t : Bool) → eqb l m ≡ t → 0 < cond t 1 0 + times l (targets is) → (0 < times l (targets is) → l < 2039) → l < 2039
    by true q k f = let z : l ≡ m = eqb-true l m q in omega (arith, h.0)
    by false q k f = f (omega arith)
targets_low (label m ∷ is) h l k = targets_low is h.1 l k

cond_small : (t : Bool) → cond t 1 0 ≤ 1
cond_small true = omega arith
cond_small false = omega arith

pub times_few : (l : ℕ) (ts : List ℕ) → times l ts ≤ length ts
times_few l [] = omega arith
times_few l (t ∷ ts) = omega (arith, times_few l ts, cond_small (eqb l t))

abbrev pub is_none : Option ℕ → Bool
is_none none = true
is_none (some n) = false

-- a label has a place exactly where it is set
pub place_among : (l here : ℕ) (is : List Item) → not (is_none (label_place l here is)) ≡ member l (labels is)
unfolding label_place labels
place_among l here [] = refl
place_among l here (instr i ∷ is) = place_among l (here + 4) is
place_among l here (raw w ∷ is) = place_among l (here + 4) is
place_among l here (jump k m r ∷ is) = place_among l (here + 4) is
place_among l here (label m ∷ is) = by (eqb l m) refl (place_among l here is)
  where
    by : (t : Bool) → eqb l m ≡ t → not (is_none (label_place l here is)) ≡ member l (labels is)
        → not (is_none (cond (eqb m l) (some here) (label_place l here is))) ≡ (t || member l (labels is))
    by true q e = rw (eq-eqb m l (sym (eqb-true l m q)))
    by false q e = rw (ne_eqb m l (λ z. eqb-false l m q (sym z))) e

entry_set : (o : Option ℕ) → ((p : ℕ) → o ≡ some p → p ≤ 65536) → is_set (entry o) ≡ not (is_none o)
entry_set none h = refl
entry_set (some p) h =
    let k = h p refl in
    let n : (p + 1) % 2 ^ 32 ≡ p + 1 = omega arith in
    ap not (ne_eqb ((p + 1) % 2 ^ 32) 0 (λ z. omega arith))

twice_shared : (m ms : List ℕ) → ((l : ℕ) → l < 2039 → is_set (get_or m l 0) ≡ member l ms)
    → (ls : List ℕ) → Each (λ l. l < 2039) ls → Once ls → twice m ls ≡ shared ls ms
unfolding twice
twice_shared m ms h [] e o = refl
twice_shared m ms h (l ∷ ls) e o = rw (h l e.0, o.0, twice_shared m ms h ls e.1 o.1)

-- ---- an order over a state

ranked_none : (c g t f : Bool) → c ≡ false → g ≡ true → ranked 0 c g t f ≡ cond t 4 (cond f 0 7)
unfolding ranked
ranked_none c g t f p q = rw (p, q)

module _ (b : List ℕ) (is : List Item) (ts : List ℕ) (s : State) (a : Represents b is ts s) where
  pub laid_size : length s.buf ≡ length b
  laid_size = ap length a.buf ∙ length_written b 0 (words is)

  pub laid_sound : sound (length s.buf) s.asm ≡ true
  laid_sound =
      let w = a.within in
      let n : room (length s.buf) ≡ room (length b) = ap room laid_size in
      sound_is (length s.buf) s.asm (omega (arith, a.len)) (omega (arith, a.len)) (omega (arith, a.count, a.few))

  -- a label's entry says whether it is set
  pub set_among : (l : ℕ) → l < 2039 → is_set (get_or s.labels l 0) ≡ member l (labels is)
  set_among l h =
      let w = a.within in
      ap is_set (a.set_labels l h)
      ∙ ap (λ (x : ℕ). not (eqb x 0)) (low_half (label_place l 0 is) (times l (targets is)))
      ∙ entry_set (label_place l 0 is) (λ p e. omega (arith, label_within l 0 p is e))
      ∙ place_among l 0 is

  -- and how many jumps go to it
  pub made_among : (l : ℕ) → l < 2039 → made (get_or s.labels l 0) ≡ times l (targets is)
  made_among l h = ap made (a.set_labels l h) ∙ by (label_place l 0 is) refl
    where
      by : (o : Option ℕ) → label_place l 0 is ≡ o → made (entry o + 2 ^ 32 * times l (targets is)) ≡ times l (targets is)
      by none q = omega arith
      by (some p) q = let k = label_within l 0 p is q in let w = a.within in omega arith

  pub made_few : (l : ℕ) → l < 2039 → made (get_or s.labels l 0) ≤ jumps is
  made_few l h = omega (arith, made_among l h, times_few l (targets is), jumps_are is)

  module _ (js : List Item) (h : Labelled js) where
    pub numbers_known : numbers_sound s.labels (targets js) ≡ true
    numbers_known =
        all_is (number_holds s.labels 0) (targets js)
        (λ l k. let q = targets_low js h l k in holds_is s.labels 0 l q (omega (arith, made_few l q, a.few)))

    numbers_room : jumps is + jumps js ≤ 4096 → numbers_fit s.labels (targets js) ≡ true
    numbers_room r =
        all_is (λ (k : ℕ). number_holds s.labels (times k (targets js)) k) (targets js)
        (λ l k. let q = targets_low js h l k in holds_is s.labels (times l (targets js)) l q (omega (arith, made_few l q, times_few l (targets js), jumps_are js)))

    fits_span : fits (length s.buf) s.asm (length (words js)) (length (targets js)) ≡ (leb (span is + span js) (room (length b)) && leb (jumps is + jumps js) 4096)
    unfolding fits
    fits_span = rw (a.len, a.count, span_words is, span_words js, laid_size, ← jumps_are js)

    -- where the jumps fit, so do the numbers
    fits_all : numbers_fit s.labels (targets js) && fits (length s.buf) s.asm (length (words js)) (length (targets js)) ≡ (leb (span is + span js) (room (length b)) && leb (jumps is + jumps js) 4096)
    fits_all = rw fits_span (by (leb (span is + span js) (room (length b))) (leb (jumps is + jumps js) 4096) refl)
      where
        by : (t u : Bool) → leb (jumps is + jumps js) 4096 ≡ u → numbers_fit s.labels (targets js) && (t && u) ≡ t && u
        by t true q = rw (numbers_room (leb-true (jumps is + jumps js) 4096 q))
        by true false q = and_false (numbers_fit s.labels (targets js))
        by false false q = and_false (numbers_fit s.labels (targets js))

    pub put_room : Once (labels js) → put_number 0 js s ≡ room_number (length b) is js
    put_room o =
        ranked_none _ _ _ _ a.unclosed (join _ _ numbers_known laid_sound)
        ∙ ap₂ (λ (t u : Bool). cond t 4 (cond u 0 7)) (twice_shared s.labels (labels is) set_among (labels js) (labelled_each js h) o) fits_all

-- ---- new labels: only room counts

abbrev pub space_number : (size : ℕ) → (before is : List Item) → ℕ
space_number size before is = cond (leb (span before + span is) (room size) && leb (jumps before + jumps is) 4096) 0 7

pub room_space : (n : ℕ) (before is : List Item) → shared (labels is) (labels before) ≡ false → room_number n before is ≡ space_number n before is
room_space n before is e = rw e

-- where the first part has no room, neither has the whole; where it has, the rest decides
no_room : (t u t' u' : Bool) (k : ℕ) → (t ≡ false → t' ≡ false) → (u ≡ false → u' ≡ false) → cond (t && u) 0 7 ≡ suc k → cond (t' && u') 0 7 ≡ suc k
no_room true true t' u' k f g e = absurd (omega arith)
no_room true false true u' k f g e = rw (g refl) e
no_room true false false u' k f g e = e
no_room false u t' u' k f g e = rw (f refl) e

pub space_none : (n : ℕ) (is js ks : List Item) (k : ℕ) → space_number n is js ≡ suc k → space_number n is (js ++ ks) ≡ suc k
space_none n is js ks k e =
    no_room (leb (span is + span js) (room n)) (leb (jumps is + jumps js) 4096)
    (leb (span is + span (js ++ ks)) (room n)) (leb (jumps is + jumps (js ++ ks)) 4096) k
    (λ p. lt-leb (span is + span (js ++ ks)) (room n) (omega (arith, leb-false (span is + span js) (room n) p, span_append js ks)))
    (λ q. lt-leb (jumps is + jumps (js ++ ks)) 4096 (omega (arith, leb-false (jumps is + jumps js) 4096 q, jumps_append js ks)))
    e

pub space_part : (n : ℕ) (is js ks : List Item) → space_number n is (js ++ ks) ≡ space_number n (is ++ js) ks
space_part n is js ks =
    let x : span is + span (js ++ ks) ≡ span (is ++ js) + span ks = omega (arith, span_append js ks, span_append is js) in
    let y : jumps is + jumps (js ++ ks) ≡ jumps (is ++ js) + jumps ks = omega (arith, jumps_append js ks, jumps_append is js) in
    rw (x, y)
