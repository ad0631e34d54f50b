-- What each way through the readers answers.
use mathlib.Core.Path.{◌≡◌, refl, sym, ap, ◌∙◌}
use mathlib.Core.Bool.{Bool, true, false, cond}
use mathlib.Core.Option.{Option, some, none, map}
use mathlib.Core.List.{List, [], ◌∷◌}
use Prim.Native.Nat.{ℕ, zero, suc, ◌+◌, ◌*◌, ◌-◌, ◌^◌, ◌<◌, ◌≤◌}
use native.Mathlib.Nat.{pow-succ', pow-le-pow_right}
use native.Mathlib.Omega.{arith}
use borrow.Author.Tests.{lt-ltb, le-ltb, ltb-false, ltb-true, eq-eqb, ne_eqb}
use lib.Dec.{eqb, ltb}
use lib.IntN.{pos}
use lib.ListN.{length, get_or, take, drop, length-drop, drop_of_length-le}
use lib.Seq.{drop-drop, take_all}
use Rattle.text.specs.Readers.{digit_value, read_from, read_decimal, read_integer, read_word, sized, as_option, numeral, negative, integer, word}
use Rattle.text.specs.Readers.{upto, end_from, next_from, split, fields_from}
use Rattle.text.specs.Fields.{onto}
use Rattle.text.specs.declared.Number.{Number}
use Rattle.text.specs.declared.Number.TheVariants.{Value, TooBig}
use Rattle.std.specs.Prelude as rust
use Rattle.std.specs.Prelude.{Some, None}
use Rattle.text.specs.declared.Integer.{Integer}
use Rattle.text.proofs.Steps.{at, off}

-- ---- a decimal number

pub empty : (s : List ℕ) → length s ≡ 0 → read_decimal s ≡ none
unfolding read_decimal
empty [] h = refl
empty (c ∷ cs) h = absurd (omega arith)

pub alone : (s : List ℕ) → length s ≡ 1 → read_decimal s ≡ read_from 10 0 s
unfolding read_decimal
alone [] h = absurd (omega arith)
alone (c ∷ []) h = rw (off (eqb c 48))
alone (c ∷ d ∷ cs) h = absurd (omega arith)

module _ (s : List ℕ) (h : length s ≡ 0 → ⊥) (k : length s ≡ 1 → ⊥) where
  pub leading : get_or s 0 0 ≡ 48 → read_decimal s ≡ none
  unfolding read_decimal
  leading e = go s h k e
    where
      go : (s : List ℕ) → (length s ≡ 0 → ⊥) → (length s ≡ 1 → ⊥) → get_or s 0 0 ≡ 48 → read_decimal s ≡ none
      go [] h k e = absurd (h refl)
      go (c ∷ []) h k e = absurd (k refl)
      go (c ∷ d ∷ cs) h k e = rw (eq-eqb c 48 e, ne_eqb (suc (length cs)) 0 (λ z. omega arith))

  pub led : (get_or s 0 0 ≡ 48 → ⊥) → read_decimal s ≡ read_from 10 0 s
  unfolding read_decimal
  led e = go s h e
    where
      go : (s : List ℕ) → (length s ≡ 0 → ⊥) → (get_or s 0 0 ≡ 48 → ⊥) → read_decimal s ≡ read_from 10 0 s
      go [] h e = absurd (h refl)
      go (c ∷ cs) h e = rw (ne_eqb c 48 e)

-- ---- the code's own `Option`

module _ {A : Type 0} where
  pub as_some : (o : Option A) (x : A) → as_option o ≡ Some x → o ≡ some x
  as_some none x e = absurd (let z : ◌≡◌ {A = ℕ} 0 1 = cc in omega arith)
  as_some (some y) x e = cc

  pub as_none : (o : Option A) → as_option o ≡ None → o ≡ none
  as_none none e = refl
  as_none (some y) e = absurd (let z : ◌≡◌ {A = ℕ} 0 1 = cc in omega arith)

-- ---- a minus

pub empty_integer : (s : List ℕ) → length s ≡ 0 → read_integer s ≡ none
unfolding read_integer
empty_integer [] h = refl
empty_integer (c ∷ cs) h = absurd (omega arith)

pub minus : (s : List ℕ) → (length s ≡ 0 → ⊥) → get_or s 0 0 ≡ 45 → read_integer s ≡ negative (read_decimal (drop 1 s))
unfolding read_integer
minus [] h e = absurd (h refl)
minus (c ∷ cs) h e = rw (eq-eqb c 45 e)

pub plain : (s : List ℕ) → (length s ≡ 0 → ⊥) → (get_or s 0 0 ≡ 45 → ⊥) → read_integer s ≡ map pos (read_decimal s)
unfolding read_integer
plain [] h e = absurd (h refl)
plain (c ∷ cs) h e = rw (ne_eqb c 45 e)

pub part_is : (s : List ℕ) → read_decimal (take (length s - 1) (drop 1 s)) ≡ read_decimal (drop 1 s)
part_is s = ap read_decimal (take_all (length s - 1) (drop 1 s) (omega (arith, length-drop 1 s)))

abbrev signed : Bool → Number → rust.Option Integer
signed minus m = Some (record { minus = minus; magnitude = m })

pub plain_is : (o : Option ℕ) (m : Number) → numeral o ≡ Some m → signed false m ≡ integer (map pos o)
plain_is none m e = absurd (let z : ◌≡◌ {A = ℕ} 0 1 = cc in omega arith)
plain_is (some n) m e = cc

pub plain_bad : (o : Option ℕ) → numeral o ≡ None → None ≡ integer (map pos o)
plain_bad none e = refl
plain_bad (some n) e = absurd (let z : ◌≡◌ {A = ℕ} 0 1 = cc in omega arith)

minus_is : (o : Option ℕ) (m : Number) → numeral o ≡ Some m → (m ≡ Value 0 → ⊥) → signed true m ≡ integer (negative o)
minus_is none m e f = absurd (let z : ◌≡◌ {A = ℕ} 0 1 = cc in omega arith)
minus_is (some zero) m e f = absurd (f (cc))
minus_is (some (suc n)) m e f = cc

pub minus_big : (o : Option ℕ) (m : Number) → numeral o ≡ Some m → m ≡ TooBig → signed true m ≡ integer (negative o)
minus_big o m e f = minus_is o m e (λ g. let z : ◌≡◌ {A = ℕ} 0 1 = cc in omega arith)

pub minus_value : (o : Option ℕ) (m : Number) (v : ℕ) → numeral o ≡ Some m → m ≡ Value v → (v ≡ 0 → ⊥) → signed true m ≡ integer (negative o)
minus_value o m v e f h = minus_is o m e (λ g. h (cc))

pub minus_bad : (o : Option ℕ) → numeral o ≡ None → None ≡ integer (negative o)
minus_bad none e = refl
minus_bad (some n) e = absurd (let z : ◌≡◌ {A = ℕ} 0 1 = cc in omega arith)

value_is : (n v : ℕ) → sized n ≡ Value v → n ≡ v
value_is n v e = go (ltb n 18446744073709551616) e
  where
    go : (t : Bool) → cond t (Value n) TooBig ≡ Value v → n ≡ v
    go true f = cc
    go false f = absurd (let z : ◌≡◌ {A = ℕ} 0 1 = cc in omega arith)

pub some_is : (o : Option ℕ) (v : ℕ) → numeral o ≡ Some (Value v) → o ≡ some v
some_is none v e = absurd (let z : ◌≡◌ {A = ℕ} 0 1 = cc in omega arith)
some_is (some n) v e = ap some (value_is n v (cc))

pub minus_zero : (o : Option ℕ) → numeral o ≡ Some (Value 0) → None ≡ integer (negative o)
minus_zero o e = rw (some_is o 0 e)

-- ---- a word

module _ (s : List ℕ) where
  pub not_16 : (length s ≡ 16 → ⊥) → None ≡ word (read_word s)
  unfolding read_word
  not_16 h = rw (ne_eqb (length s) 16 h)

  -- the loop: i digits gave v, and the others are left
  abbrev pub Wording : (v i : ℕ) → Type 0
  Wording v i = (i ≤ 16) × (v < 16 ^ i) × (read_from 16 0 s ≡ read_from 16 v (drop i s))

  pub word_starts : Wording 0 0
  word_starts = (omega arith, omega arith, refl)

  module _ (h : length s ≡ 16) where
    has_16 : read_word s ≡ read_from 16 0 s
    unfolding read_word
    has_16 = rw (eq-eqb (length s) 16 h)

    module _ (v i : ℕ) (b : Wording v i) where
      pub word_ends : length s ≤ i → Some v ≡ word (read_word s)
      unfolding read_from
      word_ends g = rw (has_16, b.2, drop_of_length-le s g)

      module _ (g : i < length s) where
        left : drop i s ≡ get_or s i 0 ∷ drop (i + 1) s
        left = at s i g

        pub word_bad : cond (ltb (digit_value (get_or s i 0)) 16) (Some (digit_value (get_or s i 0))) None ≡ None → None ≡ word (read_word s)
        unfolding read_from
        word_bad d = rw (has_16, b.2, left) (go (ltb (digit_value (get_or s i 0)) 16) d)
          where
            go : (t : Bool) → cond t (Some (digit_value (get_or s i 0))) None ≡ None → None ≡ word (cond t (read_from 16 (v * 16 + digit_value (get_or s i 0)) (drop (i + 1) s)) none)
            go true e = absurd (let z : ◌≡◌ {A = ℕ} 0 1 = cc in omega arith)
            go false e = refl

        pub word_low : v < 16 ^ 15
        word_low = let k : i ≤ 15 = omega arith in let m : 16 ^ i ≤ 16 ^ 15 = pow-le-pow_right (omega arith) k in omega (arith, b.1, m)

        module _ (d : ℕ) (k : (ltb (digit_value (get_or s i 0)) 16 ≡ true) × (digit_value (get_or s i 0) ≡ d)) where
          few : d < 16
          few = omega (arith, ltb-true (digit_value (get_or s i 0)) 16 k.0, k.1)

          more : v * 16 + d < 16 ^ (i + 1)
          more = let j : i + 1 ≡ suc i = omega arith in rw (j, pow-succ' 16 i) (omega (arith, b.1, few))

          pub word_room : v * 16 + d < 2 ^ 64
          word_room = omega (arith, word_low, few)

          pub word_more : Wording (v * 16 + d) (i + 1)
          unfolding read_from
          word_more = (omega arith, more, b.2 ∙ rw (left, k.0, k.1))

-- ---- fields

ltb_same : (a b c d : ℕ) → (a < b → c < d) → (b ≤ a → d ≤ c) → ltb a b ≡ ltb c d
ltb_same a b c d f g = go (ltb a b) refl
  where
    go : (t : Bool) → ltb a b ≡ t → t ≡ ltb c d
    go true e = sym (lt-ltb c d (f (ltb-true a b e)))
    go false e = sym (le-ltb c d (g (ltb-false a b e)))

behind : (s : List ℕ) (a k : ℕ) → a ≤ length s → fields_from (drop a s) k ≡ fields_from s (a + k)
unfolding fields_from
behind s a k h =
    let t : ltb (length (drop a s)) k ≡ ltb (length s) (a + k) = simp length-drop (ltb_same (length s - a) k (length s) (a + k) (λ e. omega arith) (λ e. omega arith)) in
    rw (t, drop-drop k a s)

-- the first field, and the fields behind it
pub first_field : (s : List ℕ) → split s ≡ take (upto s) s ∷ fields_from s (upto s + 1)
unfolding split upto fields_from
first_field [] = refl
first_field (c ∷ cs) = go (eqb c 44) (first_field cs)
  where
    go : (t : Bool) → split cs ≡ take (upto cs) cs ∷ fields_from cs (upto cs + 1) → cond t ([] ∷ split cs) (onto c (split cs)) ≡ take (cond t 0 (suc (upto cs))) (c ∷ cs) ∷ fields_from (c ∷ cs) (cond t 0 (suc (upto cs)) + 1)
    go true e = rw (le-ltb (suc (length cs)) 1 (omega arith))
    go false e =
        let x : suc (upto cs) + 1 ≡ 1 + (upto cs + 1) = omega arith in
        rw (e, x) (ap (λ (fs : List (List ℕ)). (c ∷ take (upto cs) cs) ∷ fs) (behind (c ∷ cs) 1 (upto cs + 1) (omega arith)))

pub field_is : (s : List ℕ) (a : ℕ) → a ≤ length s → fields_from s a ≡ take (end_from s a - a) (drop a s) ∷ fields_from s (next_from s a)
unfolding fields_from end_from next_from
field_is s a h =
    let x : a + upto (drop a s) - a ≡ upto (drop a s) = omega arith in
    let y : a + upto (drop a s) + 1 ≡ a + (upto (drop a s) + 1) = omega arith in
    rw (le-ltb (length s) a h, x, y) (first_field (drop a s) ∙ ap (λ (fs : List (List ℕ)). take (upto (drop a s)) (drop a s) ∷ fs) (behind s a (upto (drop a s) + 1) h))

pub no_field : (s : List ℕ) (a : ℕ) → length s < a → fields_from s a ≡ []
unfolding fields_from
no_field s a h = rw (lt-ltb (length s) a h)

pub next_none : (s : List ℕ) (a : ℕ) → length s < a → next_from s a ≡ a
unfolding next_from
next_none s a h = rw (lt-ltb (length s) a h)

pub next_is : (s : List ℕ) (a : ℕ) → a ≤ length s → next_from s a ≡ end_from s a + 1
unfolding next_from end_from
next_is s a h = rw (le-ltb (length s) a h)
