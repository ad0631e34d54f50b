-- The first bytes of a line as one number.
use mathlib.Core.Path.{◌≡◌, refl, sym, ap, ◌∙◌, subst}
use mathlib.Core.Bool.{Bool, true, false, cond, ◌&&◌}
use mathlib.Core.List.{List, [], ◌∷◌, ◌++◌}
use Prim.Native.Nat.{ℕ, zero, suc, ◌+◌, ◌*◌, ◌-◌, ◌/◌, ◌%◌, ◌^◌, ◌≤◌, ◌<◌}
use native.Mathlib.Nat.{suc-add}
use native.Mathlib.Numerals.{add-one}
use native.Mathlib.Omega.{arith}
use borrow.Author.Tests.{lt-ltb, le-leb, leb-true, eq-eqb, eqb-true}
use lib.Dec.{eqb, leb}
use lib.ListN.{length, get_or, take, drop}
use lib.Pow.{are_bytes, field, shl-shr, mod-pow-add}
use lib.Seq.{take-suc, length-take-le}
use Rattle.text.specs.Bytes.{joined, word_to}
use Rattle.text.proofs.Steps.{at}
use Rattle.text.specs.Inner.Parts.{bytes_are}

module _ (f : List ℕ) where
  fewer : (k j i x : ℕ) → bytes_are f i (k + j) x → bytes_are f i k x
  fewer zero j i x b = tt
  fewer (suc k) j i x b =
      let d = subst (λ (n : ℕ). bytes_are f i n x) (suc-add k j) b in
      (d.0, fewer k j (i + 1) (x / 256) d.1)

  -- the k lowest bytes of x as a number
  first_joined : (k i x : ℕ) → i + k ≤ length f → bytes_are f i k x → (x % 2 ^ (k * 8) ≡ joined (take k (drop i f))) × (are_bytes (take k (drop i f)) ≡ true)
  first_joined zero i x h b = (omega arith, refl)
  first_joined (suc k) i x h b =
      let r = first_joined k (i + 1) (x / 256) (omega arith) b.1 in
      let s : suc k * 8 ≡ k * 8 + 8 = omega arith in
      let l : get_or f i 0 < 256 = omega (arith, b.0) in
      (rw (s, mod-pow-add x (k * 8) 8, at f i (omega arith), r.0, b.0), rw (at f i (omega arith), lt-ltb _ _ l, r.1))

  module _ (e : ℕ) where
    pub word_is : (x : ℕ) → 8 ≤ length f → e ≤ 6 → get_or f e 0 ≡ 44 → bytes_are f 0 8 x → (x * 2 ^ (56 - 8 * e) % 18446744073709551616 / 2 ^ (56 - 8 * e) ≡ word_to f e) × (are_bytes (take e f) ≡ true)
    unfolding word_to
    word_is x h k c b =
        let a = 56 - 8 * e in
        let q : suc e * 8 + a ≡ 64 = omega arith in
        let p : suc e + (7 - e) ≡ 8 = omega arith in
        let o : e + (8 - e) ≡ 8 = omega arith in
        let m = rw q at (field (x * 2 ^ a) (suc e * 8) a) in
        let u = first_joined (suc e) 0 x (omega arith) (fewer (suc e) (7 - e) 0 x (subst (λ (n : ℕ). bytes_are f 0 n x) (sym p) b)) in
        let v = first_joined e 0 x (omega arith) (fewer e (8 - e) 0 x (subst (λ (n : ℕ). bytes_are f 0 n x) (sym o) b)) in
        (m ∙ rw (shl-shr x a, le-leb 8 (length f) h, le-leb e 6 k, eq-eqb _ 44 c, add-one e) u.0, v.1)

    -- none: too few bytes, too long, no comma
    pub no_word : cond (leb 8 (length f) && (leb e 6 && eqb (get_or f e 0) 44)) true false ≡ false → 0 ≡ word_to f e
    unfolding word_to
    no_word h = by (leb 8 (length f) && (leb e 6 && eqb (get_or f e 0) 44)) h
      where
        by : (t : Bool) → cond t true false ≡ false → 0 ≡ cond t (joined (take (e + 1) f)) 0
        by true h = absurd (let z : ◌≡◌ {A = ℕ} 0 1 = cc in omega arith)
        by false h = refl

-- a word is the bytes, at most six, and the comma
pub with_comma : (s : List ℕ) (e : ℕ) → (word_to s e ≡ 0 → ⊥) → (word_to s e ≡ joined (take e s ++ (44 ∷ []))) × (length (take e s) < 7)
unfolding word_to
with_comma s e n = by (leb 8 (length s)) (leb e 6) (eqb (get_or s e 0) 44) refl refl refl n
  where
    by : (t u v : Bool) → leb 8 (length s) ≡ t → leb e 6 ≡ u → eqb (get_or s e 0) 44 ≡ v → (cond (t && (u && v)) (joined (take (e + 1) s)) 0 ≡ 0 → ⊥)
        → (cond (t && (u && v)) (joined (take (e + 1) s)) 0 ≡ joined (take e s ++ (44 ∷ []))) × (length (take e s) < 7)
    by true true true a b c n =
        let l = leb-true 8 (length s) a in
        let m = leb-true e 6 b in
        let z : take (e + 1) s ≡ take e s ++ (44 ∷ []) = rw (add-one e, take-suc s e 0 (omega (arith, l, m)), eqb-true (get_or s e 0) 44 c) in
        (ap joined z, rw (length-take-le e s (omega (arith, l, m))) (omega (arith, m)))
    by true true false a b c n = absurd (n refl)
    by true false v a b c n = absurd (n refl)
    by false u v a b c n = absurd (n refl)
