-- Where a line ends, byte by byte.
use mathlib.Core.Path.{◌≡◌, refl, ◌∙◌}
use mathlib.Core.Bool.{Bool, true, false}
use mathlib.Core.List.{List, [], ◌∷◌}
use Prim.Native.Nat.{ℕ, suc, ◌+◌, ◌-◌, ◌≤◌, ◌<◌, max}
use native.Mathlib.Nat.{add-zero}
use native.Mathlib.Omega.{arith}
use borrow.Author.Tests.{eq-eqb, ne_eqb, ltb-true, ltb-false}
use lib.Dec.{ltb}
use lib.ListN.{length, get_or, take, drop, length-drop, drop_of_length-le}
use lib.Seq.{length-take-le}
use Rattle.text.specs.Lines.{lines_of, Ends}
use Rattle.text.proofs.Steps.{at}

-- the file's end
pub ends_behind : (f : List ℕ) (a : ℕ) → length f ≤ a → Ends f a a
unfolding lines_of
ends_behind f a h = (rw (drop_of_length-le f h) (omega arith), λ g. absurd (omega arith))

-- no byte 10 from a to the end, which i has reached
pub ends_last : (f : List ℕ) (a i m : ℕ) → length f ≤ i → (a ≤ length f → i ≤ length f) → ((r : ℕ) → Ends f i r → Ends f a r) → m ≡ max (length f) a → Ends f a m
ends_last f a i m h k e z = go (ltb (length f) a) refl
  where
    go : (t : Bool) → ltb (length f) a ≡ t → Ends f a m
    go true q = let g = ltb-true (length f) a q in let y : m ≡ a = omega (arith, z, g) in rw y (ends_behind f a (omega (arith, g)))
    go false q = let g = ltb-false (length f) a q in let y : m ≡ i = omega (arith, z, g, h, k g) in rw y (e i (ends_behind f i h))

module _ (f : List ℕ) (a : ℕ) (h : a < length f) where
  ends : (r : ℕ) → a < r → r ≤ length f → lines_of (drop a f) ≡ take (r - a) (drop a f) ∷ lines_of (drop r f) → Ends f a r
  ends r u v e =
      let w : r - a ≤ length (drop a f) = simp length-drop (omega arith) in
      (rw e (omega (arith, length-take-le (r - a) (drop a f) w)), λ g. (u, v, e))

  -- byte 10 ends it
  pub ends_here : get_or f a 0 ≡ 10 → Ends f a (a + 1)
  unfolding lines_of
  ends_here e =
      let d : a + 1 - a ≡ 1 = omega arith in
      ends (a + 1) (omega arith) (omega arith) (rw (d, at f a h) (simp (eq-eqb _ _ e)))

  -- another byte doesn't
  pub ends_later : (r : ℕ) → (get_or f a 0 ≡ 10 → ⊥) → Ends f (a + 1) r → Ends f a r
  unfolding lines_of
  ends_later r n e = by (ltb (a + 1) (length f)) refl
    where
      by : (t : Bool) → ltb (a + 1) (length f) ≡ t → Ends f a r
      by true q =
          let t = e.1 (ltb-true _ _ q) in
          let d : r - a ≡ suc (r - (a + 1)) = omega (arith, t.0) in
          ends r (omega (arith, t.0)) t.1 (rw (d, at f a h) (simp (ne_eqb _ _ n, t.2)))
      by false q =
          let z : drop (a + 1) f ≡ [] = drop_of_length-le f (ltb-false _ _ q) in
          let g : r ≡ a + 1 = (rw z at e.0) ∙ add-zero (a + 1) in
          let d : a + 1 - a ≡ 1 = omega arith in
          rw g (ends (a + 1) (omega arith) (omega arith) (rw (d, at f a h) (simp (ne_eqb _ _ n, z))))
