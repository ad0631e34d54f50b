-- Labels looked at block by block. Assumes nothing.
use Rattle.std.proofs.Common.{◌≡◌, refl, sym, leb, Bool, true, false, not, List, [], ◌∷◌, ◌++◌, ◌&&◌, ℕ, zero, suc, ◌+◌, ◌<◌, ◌≤◌, length, get_or, arith, le-leb}
use lib.Bits.{bit_or, or_add_and, or_comm, and_le_r}
use Rattle.base.specs.Tests.{all}
use Rattle.base.proofs.Bools.{both, join}
use Rattle.finish.specs.Finish.{first, label_good, labels_good}
use Rattle.finish.proofs.First.{first_none}
use Rattle.finish.proofs.Wrong.{at_first}

reaches_left : (a b : ℕ) → a ≤ bit_or a b
reaches_left a b = omega (arith, or_add_and a b, and_le_r a b)

pub or_none : (a b : ℕ) → bit_or a b ≡ 0 → (a ≡ 0) × (b ≡ 0)
or_none a b e =
    let l = reaches_left a b in
    let r = rw (or_comm b a) at (reaches_left b a) in
    (omega (arith, e, l), omega (arith, e, r))

module _ (t : ℕ → Bool) where
  pub all_append : (a b : List ℕ) → all t (a ++ b) ≡ all t a && all t b
  all_append [] b = refl
  all_append (x ∷ a) b = rw (all_append a b) (by (t x))
    where
      by : (s : Bool) → s && (all t a && all t b) ≡ (s && all t a) && all t b
      by true = refl
      by false = refl

  pub all_of_each : (xs : List ℕ) → ((i : ℕ) → i < length xs → t (get_or xs i 0) ≡ true) → all t xs ≡ true
  all_of_each [] h = refl
  all_of_each (x ∷ xs) h = join _ _ (h 0 (omega arith)) (all_of_each xs (λ i q. h (suc i) (omega arith)))

  pub each_of_all : (xs : List ℕ) → all t xs ≡ true → (i : ℕ) → i < length xs → t (get_or xs i 0) ≡ true
  each_of_all [] h i q = absurd (omega arith)
  each_of_all (x ∷ xs) h zero q = (both _ _ h).0
  each_of_all (x ∷ xs) h (suc i) q = each_of_all xs (both _ _ h).1 i (omega arith)

-- a first block, and the rest
pub all_behind : (t : ℕ → Bool) (xs a b : List ℕ) → xs ≡ a ++ b → ((i : ℕ) → i < length a → t (get_or a i 0) ≡ true) → all t xs ≡ all t b
all_behind t xs a b e h = rw (e, all_append t a b, all_of_each t a h)

-- one of the first block is not
pub all_within : (t : ℕ → Bool) (xs a b : List ℕ) → xs ≡ a ++ b → (((i : ℕ) → i < length a → t (get_or a i 0) ≡ true) → ⊥) → all t xs ≡ false
all_within t xs a b e h = rw (e, all_append t a b) (by (all t a) refl)
  where
    by : (s : Bool) → all t a ≡ s → s && all t b ≡ false
    by true q = absurd (h (each_of_all t a q))
    by false q = refl

pub all_none : (t : ℕ → Bool) (xs : List ℕ) → length xs ≡ 0 → all t xs ≡ true
all_none t [] e = refl
all_none t (x ∷ xs) e = absurd (omega arith)

-- two tests of which each gives the other
same_test : (a b : Bool) → (a ≡ true → b ≡ true) → (b ≡ true → a ≡ true) → a ≡ b
same_test true b f g = sym (f refl)
same_test false true f g = g refl
same_test false false f g = refl

pub good_all : (len : ℕ) (labels : List ℕ) → length labels ≡ 2039 → all (label_good len) labels ≡ labels_good len labels
unfolding labels_good
good_all len labels n = same_test _ _ forth back
  where
    good : all (label_good len) labels ≡ true → (j : ℕ) → j < 2039 → not (label_good len (get_or labels (0 + j) 0)) ≡ false
    good h j q =
        let z : 0 + j ≡ j = omega arith in
        rw (z, each_of_all (label_good len) labels h j (omega arith)) refl

    forth : all (label_good len) labels ≡ true → leb 2039 (first (λ i. not (label_good len (get_or labels i 0))) 0 2039) ≡ true
    forth h = let e = first_none (λ i. not (label_good len (get_or labels i 0))) 0 2039 (good h) in le-leb _ _ (omega (arith, e))

    back : labels_good len labels ≡ true → all (label_good len) labels ≡ true
    back h = all_of_each (label_good len) labels (λ i q. at_first len labels h i (omega arith))
