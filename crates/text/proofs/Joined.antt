-- Fields joined by commas and split again.
use mathlib.Core.Path.{◌≡◌, refl, sym, ap, ◌∙◌}
use mathlib.Core.Bool.{Bool, true, false, cond, ◌&&◌, not}
use mathlib.Core.List.{List, [], ◌∷◌, ◌++◌}
use Prim.Native.Nat.{ℕ, zero, suc, ◌+◌, ◌/◌, ◌%◌, ◌^◌}
use native.Mathlib.Omega.{arith}
use borrow.Author.Tests.{eq-eqb, ne_eqb, eqb-true, not-true}
use lib.Dec.{eqb, ltb}
use lib.IntN.{ℤ, pos, negsuc}
use Rattle.base.proofs.Bools.{both}
use Rattle.text.specs.Digits.{digit_byte, digits, decimal, integer_bytes, word_bytes}
use Rattle.text.specs.Fields.{commas, onto}
use Rattle.text.specs.Readers.{split, same}
use Rattle.text.proofs.Answers.{first_field}

-- no comma in it
abbrev pub free : List ℕ → Bool
free [] = true
free (c ∷ cs) = not (eqb c 44) && free cs

abbrev pub all_free : List (List ℕ) → Bool
all_free [] = true
all_free (f ∷ fs) = free f && all_free fs

onto_first : (f r : List ℕ) (fs : List (List ℕ)) → split r ≡ [] ∷ fs → free f ≡ true → split (f ++ r) ≡ f ∷ fs
unfolding split
onto_first [] r fs e h = e
onto_first (c ∷ f) r fs e h =
    let g = both (not (eqb c 44)) (free f) h in
    rw (not-true (eqb c 44) g.0, onto_first f r fs e g.1)

split_commas : (fs : List (List ℕ)) → all_free fs ≡ true → split (commas fs) ≡ [] ∷ fs
unfolding split commas
split_commas [] h = refl
split_commas (f ∷ fs) h =
    let g = both (free f) (all_free fs) h in
    ap (λ (gs : List (List ℕ)). [] ∷ gs) (onto_first f (commas fs) fs (split_commas fs g.1) g.0)

pub split_join : (f : List ℕ) (fs : List (List ℕ)) → free f ≡ true → all_free fs ≡ true → split (f ++ commas fs) ≡ f ∷ fs
split_join f fs h k = onto_first f (commas fs) fs (split_commas fs k) h

-- the fields with their commas
joined : List (List ℕ) → List ℕ
joined [] = []
joined (f ∷ fs) = f ++ commas fs

join_split' : (s : List ℕ) → joined (split s) ≡ s
unfolding split commas joined
join_split' [] = refl
join_split' (c ∷ cs) = go (eqb c 44) refl (join_split' cs) (first_field cs)
  where
    go : {g : List ℕ} {gs : List (List ℕ)} (t : Bool) → eqb c 44 ≡ t → joined (split cs) ≡ cs → split cs ≡ g ∷ gs → joined (cond t ([] ∷ split cs) (onto c (split cs))) ≡ c ∷ cs
    go {g} {gs} true e h k = rw (k, eqb-true c 44 e) (ap (λ (l : List ℕ). 44 ∷ l) (rw k at h))
    go {g} {gs} false e h k = rw k (ap (λ (l : List ℕ). c ∷ l) (rw k at h))

pub join_split : (s f : List ℕ) (fs : List (List ℕ)) → split s ≡ f ∷ fs → f ++ commas fs ≡ s
unfolding joined
join_split s f fs e = sym (ap joined e) ∙ join_split' s

-- ---- numbers have no comma

free_byte : (d : ℕ) → not (eqb (digit_byte d) 44) ≡ true
free_byte d = go (ltb d 10)
  where
    go : (t : Bool) → not (eqb (cond t (48 + d) (87 + d)) 44) ≡ true
    go true = rw (ne_eqb (48 + d) 44 (λ e. omega arith))
    go false = rw (ne_eqb (87 + d) 44 (λ e. omega arith))

free_digits : (b k n : ℕ) → free (digits b k n) ≡ true
unfolding digits
free_digits b zero n = refl
free_digits b (suc k) n = rw (free_byte (n / b ^ k % b), free_digits b k n)

pub free_decimal : (n : ℕ) → free (decimal n) ≡ true
unfolding decimal
free_decimal n = free_digits 10 _ n

pub free_integer : (z : ℤ) → free (integer_bytes z) ≡ true
unfolding integer_bytes
free_integer (pos n) = free_decimal n
free_integer (negsuc n) = free_decimal (suc n)

pub free_word : (n : ℕ) → free (word_bytes n) ≡ true
unfolding word_bytes
free_word n = free_digits 16 16 n

-- ---- the same bytes are the same list

pub same_refl : (s : List ℕ) → same s s ≡ true
unfolding same
same_refl [] = refl
same_refl (c ∷ s) = rw (same_eq c, same_refl s)
  where
    same_eq : (c : ℕ) → eqb c c ≡ true
    same_eq c = eq-eqb c c refl

pub same_is : (s w : List ℕ) → same s w ≡ true → s ≡ w
unfolding same
same_is [] [] e = refl
same_is [] (b ∷ w) e = let z : ◌≡◌ {A = ℕ} 0 1 = cc in absurd (omega arith)
same_is (a ∷ s) [] e = let z : ◌≡◌ {A = ℕ} 0 1 = cc in absurd (omega arith)
same_is (a ∷ s) (b ∷ w) e =
    let g = both (eqb a b) (same s w) e in
    rw (eqb-true a b g.0, same_is s w g.1)
