-- The readers' loops, byte by byte.
use mathlib.Core.Path.{◌≡◌, refl, sym, ap, ◌∙◌}
use mathlib.Core.Bool.{Bool, true, false, cond, ◌&&◌}
use mathlib.Core.List.{List, [], ◌∷◌}
use Prim.Native.Nat.{ℕ, suc, ◌+◌, ◌<◌, ◌≤◌, max}
use native.Mathlib.Numerals.{add-one}
use native.Mathlib.Omega.{arith}
use borrow.Author.Tests.{le-ltb, ltb-true, ltb-false, eq-eqb, ne_eqb, eqb-false}
use lib.Dec.{eqb, ltb}
use lib.ListN.{length, get_or, drop, drop_of_length-le}
use lib.Seq.{drop-cons}
use Rattle.text.specs.Readers.{upto, end_from, same}

pub at : (s : List ℕ) (i : ℕ) → i < length s → drop i s ≡ get_or s i 0 ∷ drop (i + 1) s
at s i h = rw (add-one, drop-cons s i 0)

-- ---- fields

module _ (s : List ℕ) (i : ℕ) where
  pub ends_here : i < length s → get_or s i 0 ≡ 44 → end_from s i ≡ i
  unfolding end_from upto
  ends_here h e = rw (le-ltb (length s) i (omega arith), at s i h, eq-eqb _ _ e) (omega arith)

  pub ends_later : i < length s → (get_or s i 0 ≡ 44 → ⊥) → end_from s i ≡ end_from s (i + 1)
  unfolding end_from upto
  ends_later h e = rw (le-ltb (length s) i (omega arith), le-ltb (length s) (i + 1) (omega arith), at s i h, ne_eqb _ _ e) (omega arith)

  pub ends_behind : length s ≤ i → end_from s i ≡ i
  unfolding end_from upto
  ends_behind h = behind (ltb (length s) i)
    where
      behind : (t : Bool) → cond t i (i + upto (drop i s)) ≡ i
      behind true = refl
      behind false = rw (drop_of_length-le s h) (omega arith)

-- no comma from a to the end, which i has reached
pub ends_last : (s : List ℕ) (a i m : ℕ) → length s ≤ i → (a ≤ length s → i ≤ length s) → end_from s a ≡ end_from s i → m ≡ max (length s) a → (m ≡ end_from s a) × (a ≤ m) × (a ≤ length s → m ≤ length s)
ends_last s a i m h k e z = (go (ltb (length s) a) refl, omega (arith, z), λ l. omega (arith, z, l))
  where
    go : (t : Bool) → ltb (length s) a ≡ t → m ≡ end_from s a
    go true q = let g = ltb-true (length s) a q in let y : m ≡ a = omega (arith, z, g) in y ∙ sym (ends_behind s a (omega (arith, g)))
    go false q = let g = ltb-false (length s) a q in let y : m ≡ i = omega (arith, z, g, h, k g) in y ∙ sym (e ∙ ends_behind s i h)

-- one or two bytes, and the comma
pub ends_near : (s : List ℕ) (a e : ℕ) → a + 2 < length s → (get_or s a 0 ≡ 44 → ⊥) → e ≡ cond (eqb (get_or s (a + 1) 0) 44) (a + 1) (a + 2) → get_or s e 0 ≡ 44 → e ≡ end_from s a
ends_near s a e h n q c = by (eqb (get_or s (a + 1) 0) 44) refl q
  where
    by : (t : Bool) → eqb (get_or s (a + 1) 0) 44 ≡ t → e ≡ cond t (a + 1) (a + 2) → e ≡ end_from s a
    by true u v = v ∙ sym (ends_later s a (omega arith) n ∙ ends_here s (a + 1) (omega arith) (rw v at c))
    by false u v =
        let w : a + 1 + 1 ≡ a + 2 = omega arith in
        v ∙ sym (ends_later s a (omega arith) n ∙ ends_later s (a + 1) (omega arith) (eqb-false _ _ u) ∙ rw w (ends_here s (a + 2) h (rw v at c)))

pub off : (t : Bool) → t && false ≡ false
off true = refl
off false = refl

-- ---- the same bytes

pub same_at : (s w : List ℕ) (i : ℕ) → i < length s → i < length w → get_or s i 0 ≡ get_or w i 0 → same (drop i s) (drop i w) ≡ same (drop (i + 1) s) (drop (i + 1) w)
unfolding same
same_at s w i h k e = rw (at s i h, at w i k, eq-eqb _ _ e)

pub differ_at : (s w : List ℕ) (i : ℕ) → i < length s → i < length w → (get_or s i 0 ≡ get_or w i 0 → ⊥) → same (drop i s) (drop i w) ≡ false
unfolding same
differ_at s w i h k e = rw (at s i h, at w i k, ne_eqb _ _ e)

pub same_end : (s w : List ℕ) (i : ℕ) → length s ≤ i → length w ≤ i → same (drop i s) (drop i w) ≡ true
unfolding same
same_end s w i h k = rw (drop_of_length-le s h, drop_of_length-le w k)

pub same_length : (s w : List ℕ) → (length s ≡ length w → ⊥) → same s w ≡ false
unfolding same
same_length [] [] h = absurd (h refl)
same_length [] (b ∷ w) h = refl
same_length (a ∷ s) [] h = refl
same_length (a ∷ s) (b ∷ w) h = rw (same_length s w (λ e. h (ap suc e))) (off (eqb a b))
