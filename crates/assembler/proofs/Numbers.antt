-- The numbers of jumps made to labels. Assumes nothing.
use mathlib.Core.Path.{◌≡◌, refl, ap, ◌∙◌}
use mathlib.Core.Bool.{Bool, true, false, cond}
use mathlib.Core.List.{List, [], ◌∷◌, ◌++◌}
use Prim.Native.Nat.{ℕ, zero, suc, ◌+◌, ◌<◌, ◌≤◌}
use native.Mathlib.Omega.{arith}
use borrow.Author.Tests.{lt-ltb, le-leb, ltb-true, leb-true, eq-eqb, eqb-true}
use lib.Dec.{eqb}
use lib.ListN.{get_or, set}
use Rattle.base.specs.Tests.{all}
use Rattle.base.proofs.Bools.{both, join}
use Rattle.assembler.specs.Label.{made, one_more}
use Rattle.assembler.specs.Put.{times, number_holds, numbers_sound, numbers_fit}

once : (l : ℕ) → ◌≡◌ {A = ℕ} (cond (eqb l l) 1 0) 1
once l = rw (eq-eqb l l refl)

module _ (p : ℕ → Bool) where
  -- what holds of all holds of each
  pub all_at : (ts : List ℕ) → all p ts ≡ true → (l : ℕ) → 0 < times l ts → p l ≡ true
  all_at [] e l h = absurd (omega arith)
  all_at (t ∷ ts) e l h = by (eqb l t) refl h (all_at ts (both (p t) (all p ts) e).1 l)
    where
      by : (b : Bool) → eqb l t ≡ b → 0 < cond b 1 0 + times l ts → (0 < times l ts → p l ≡ true) → p l ≡ true
      by true q h f = ap p (eqb-true l t q) ∙ (both (p t) (all p ts) e).0
      by false q h f = f (omega arith)

  pub all_is : (ts : List ℕ) → ((l : ℕ) → 0 < times l ts → p l ≡ true) → all p ts ≡ true
  all_is [] h = refl
  all_is (t ∷ ts) h = join (p t) (all p ts) (h t (omega (arith, once t))) (all_is ts (λ l k. h l (omega arith)))

module _ (m : List ℕ) (n l : ℕ) where
  pub holds_room : number_holds m n l ≡ true → (l < 2039) × (made (get_or m l 0) + n ≤ 4096)
  holds_room e = let p = both _ _ e in (ltb-true l 2039 p.0, leb-true _ 4096 p.1)

  pub holds_is : l < 2039 → made (get_or m l 0) + n ≤ 4096 → number_holds m n l ≡ true
  holds_is h k = rw (lt-ltb l 2039 h, le-leb (made (get_or m l 0) + n) 4096 k)

-- each label's number, with the jumps to it
pub fits_each : (m ts : List ℕ) → numbers_fit m ts ≡ true → (l : ℕ) → 0 < times l ts → (l < 2039) × (made (get_or m l 0) + times l ts ≤ 4096)
fits_each m ts e l h = holds_room m (times l ts) l (all_at (λ k. number_holds m (times k ts) k) ts e l h)

-- what there is room for is sound
pub fit_sound : (m ts : List ℕ) → numbers_fit m ts ≡ true → numbers_sound m ts ≡ true
fit_sound m ts e = all_is (number_holds m 0) ts (λ l h. let p = fits_each m ts e l h in holds_is m 0 l p.0 (omega (arith, p.1)))

-- ---- two lists of jumps

pub times_append : (l : ℕ) (xs ys : List ℕ) → times l (xs ++ ys) ≡ times l xs + times l ys
times_append l [] ys = omega arith
times_append l (x ∷ xs) ys = omega (arith, times_append l xs ys)

module _ (m xs ys : List ℕ) (e : numbers_fit m (xs ++ ys) ≡ true) where
  each : (l : ℕ) → 0 < times l xs + times l ys → (l < 2039) × (made (get_or m l 0) + times l xs + times l ys ≤ 4096)
  each l h = let a = times_append l xs ys in let p = fits_each m (xs ++ ys) e l (omega arith) in (p.0, omega (arith, p.1))

  pub fit_first : numbers_fit m xs ≡ true
  fit_first = all_is (λ k. number_holds m (times k xs) k) xs (λ l h. let p = each l (omega arith) in holds_is m (times l xs) l p.0 (omega (arith, p.1)))

  -- behind the first no number has risen by more than the jumps to its label
  pub fit_second : (n : List ℕ) → ((l : ℕ) → made (get_or n l 0) ≤ made (get_or m l 0) + times l xs) → numbers_fit n ys ≡ true
  fit_second n f = all_is (λ k. number_holds n (times k ys) k) ys (λ l h. let p = each l (omega arith) in holds_is n (times l ys) l p.0 (omega (arith, p.1, f l)))

-- ---- the jumps of a tail

pub one_fits : (m : List ℕ) (l : ℕ) → numbers_fit m (l ∷ []) ≡ true → (l < 2039) × (made (get_or m l 0) < 4096)
one_fits m l e = let p = fits_each m (l ∷ []) e l (omega (arith, once l)) in (p.0, omega (arith, p.1, once l))

pub two_fit : (m : List ℕ) (l : ℕ) → numbers_fit m (l ∷ l ∷ []) ≡ true → (l < 2039) × (made (get_or m l 0) + 2 ≤ 4096)
two_fit m l e = let p = fits_each m (l ∷ l ∷ []) e l (omega (arith, once l)) in (p.0, omega (arith, p.1, once l))

-- behind the first of two
set_at : (m : List ℕ) (l x : ℕ) → get_or (set m l x) l 0 ≤ x
set_at [] l x = omega arith
set_at (y ∷ m) zero x = omega arith
set_at (y ∷ m) (suc l) x = set_at m l x

pub second_fits : (m : List ℕ) (l : ℕ) → made (get_or m l 0) + 2 ≤ 4096 → made (get_or (set m l (one_more (get_or m l 0))) l 0) < 4096
second_fits m l h = omega (arith, set_at m l (one_more (get_or m l 0)))
