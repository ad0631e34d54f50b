-- Labels and their lines as text. Assumes nothing.
use mathlib.Core.Path.{◌≡◌, refl, sym, ap, ◌∙◌}
use mathlib.Core.Bool.{Bool, true, false, cond}
use mathlib.Core.List.{List, [], ◌∷◌, ◌++◌}
use Prim.Native.Nat.{ℕ, zero, suc, ◌+◌, ◌-◌, ◌*◌, ◌^◌, ◌≤◌, ◌<◌}
use native.Mathlib.Numerals.{add-one}
use native.Mathlib.Omega.{arith}
use borrow.Author.Tests.{lt-ltb, le-ltb, ltb-true, ltb-false}
use lib.Dec.{ltb}
use lib.ListN.{length, drop, get_or, length-append, drop_of_length-le}
use lib.Seq.{drop-cons}
use Rattle.text.specs.Digits.{decimal}
use Rattle.print.specs.Text.{refusal_line}
use Rattle.print.proofs.Counts.{decimal_short}
use Rattle.print.proofs.Lines.{length_refusal_line}
use Rattle.unused.specs.Unused.{passing}
use Rattle.stale.specs.Deck.{label_text, own_text, labels_text}

-- ---- one label

pub length_label_text : (l n : ℕ) → length (label_text l n) ≡ length (decimal l) + length (decimal n) + 2
unfolding label_text
length_label_text l n = simp length-append (omega arith)

module _ (f : ℕ → ℕ) (l : ℕ) where
  pub own_is : l < 1024 → own_text f l ≡ label_text l (f l)
  own_is h = rw (lt-ltb l 1024 h)

  pub foreign_is : 1024 ≤ l → own_text f l ≡ []
  foreign_is h = rw (le-ltb l 1024 h)

-- ---- all of a list

module _ (f : ℕ → ℕ) (ls : List ℕ) (i : ℕ) where
  abbrev pub rest : List ℕ
  rest = labels_text f (drop i ls)

module _ (f : ℕ → ℕ) (ls : List ℕ) (i : ℕ) where
  pub no_more : length ls ≤ i → rest f ls i ≡ []
  unfolding labels_text
  no_more h = ap (labels_text f) (drop_of_length-le ls h)

  pub one_more : i < length ls → rest f ls i ≡ own_text f (get_or ls i 0) ++ rest f ls (i + 1)
  unfolding labels_text
  one_more h = ap (labels_text f) (drop-cons ls i 0 h) ∙ ap (λ (k : ℕ). own_text f (get_or ls i 0) ++ labels_text f (drop k ls)) (sym (add-one i))

-- lines that agree for a file's own labels
own_same : (f g : ℕ → ℕ) (l : ℕ) → (l < 1024 → f l ≡ g l) → own_text f l ≡ own_text g l
own_same f g l h = by (ltb l 1024) refl
  where
    by : (b : Bool) → ltb l 1024 ≡ b → own_text f l ≡ own_text g l
    by true q = let k = ltb-true l 1024 q in rw (q, h k)
    by false q = rw q

pub same_text : (f g : ℕ → ℕ) → ((l : ℕ) → l < 1024 → f l ≡ g l) → (ls : List ℕ) → labels_text f ls ≡ labels_text g ls
unfolding labels_text
same_text f g h [] = refl
same_text f g h (l ∷ ls) = rw (own_same f g l (h l), same_text f g h ls)

-- ---- how long it is

own_short : (f : ℕ → ℕ) → ((l : ℕ) → l < 1024 → f l ≤ 65536) → (l : ℕ) → l < 1024 → length (own_text f l) ≤ 11
own_short f h l g =
    let a = decimal_short 3 l (omega arith) in
    let b = decimal_short 4 (f l) (omega (arith, h l g)) in
    rw (own_is f l g) (omega (arith, length_label_text l (f l)))

-- numbers from i on that pass a test
from_short : (f : ℕ → ℕ) → ((l : ℕ) → l < 1024 → f l ≤ 65536) → (t : ℕ → Bool) (i n : ℕ) → length (labels_text f (passing t i n)) ≤ 11 * (1024 - i)
unfolding labels_text passing
from_short f h t i zero = omega arith
from_short f h t i (suc n) = by (t i) (ltb i 1024) refl (from_short f h t (i + 1) n)
  where
    by : (b c : Bool) → ltb i 1024 ≡ c → length (labels_text f (passing t (i + 1) n)) ≤ 11 * (1024 - (i + 1))
        → length (labels_text f (cond b (i ∷ passing t (i + 1) n) (passing t (i + 1) n))) ≤ 11 * (1024 - i)
    by false c q e = omega arith
    by true true q e =
        let k = ltb-true i 1024 q in
        omega (arith, length-append (own_text f i) (labels_text f (passing t (i + 1) n)), own_short f h i k)
    by true false q e =
        let k = ltb-false i 1024 q in
        let z : length (own_text f i) ≡ 0 = ap length (foreign_is f i k) in
        omega (arith, length-append (own_text f i) (labels_text f (passing t (i + 1) n)), z)

pub labels_short : (f : ℕ → ℕ) → ((l : ℕ) → l < 1024 → f l ≤ 65536) → (t : ℕ → Bool) (n : ℕ) → length (labels_text f (passing t 0 n)) ≤ 11264
labels_short f h t n = omega (arith, from_short f h t 0 n)

pub refusal_short : (number line : ℕ) → number < 256 → line < 2 ^ 32 → length (refusal_line number line) ≤ 11264
refusal_short number line h g =
    let a = length_refusal_line number line in
    let b = decimal_short 2 number (omega arith) in
    let c = decimal_short 9 line (omega arith) in
    omega arith
