-- The list and its laws, and the loops that make it. Assumes nothing.
use mathlib.Core.Path.{◌≡◌, refl, sym, ap, ◌∙◌}
use mathlib.Core.Bool.{Bool, true, false, ◌&&◌, ◌||◌, cond}
use mathlib.Core.List.{List, [], ◌∷◌, ◌++◌, append-nil}
use Prim.Native.Nat.{ℕ, zero, suc, ◌+◌, ◌-◌, ◌≤◌, ◌<◌}
use native.Mathlib.Nat.{add-zero, zero-add}
use native.Mathlib.Numerals.{add-one}
use native.Mathlib.Omega.{arith}
use borrow.Author.Tests.{eq-eqb, ne_eqb, eqb-true, eqb-false, lt-ltb, le-ltb, lt-leb, le-leb, ltb-true, ltb-false}
use lib.Dec.{eqb, ltb}
use lib.ListN.{length, get_or, set, length-append}
use lib.Seq.{sets}
use Rattle.base.specs.Tests.{member}
use Rattle.base.proofs.Bools.{or_false}
use Rattle.refusal.specs.Answer.{accepted}
use Rattle.assembler.specs.State.{sound}
use Rattle.assembler.specs.declared.Asm.{Asm}
use Rattle.assembler.specs.Label.{made}
use Rattle.unused.specs.Unused.{is_unused, passing, numbers_good, unused_in, listed}
use Rattle.unused.specs.Laws.{Rises, Rising, Exact}

-- ---- the numbers of all labels

module _ (m : List ℕ) (i n : ℕ) (h : i < n) where
  pub number_good : made (get_or m i 0) ≤ 4096 → numbers_good m i (n - i) ≡ numbers_good m (i + 1) (n - (i + 1))
  unfolding numbers_good
  number_good g =
      let d : n - i ≡ suc (n - (i + 1)) = omega arith in
      rw (d, le-leb (made (get_or m i 0)) 4096 g)

  pub number_bad : 4096 < made (get_or m i 0) → numbers_good m i (n - i) ≡ false
  unfolding numbers_good
  number_bad g =
      let d : n - i ≡ suc (n - (i + 1)) = omega arith in
      rw (d, lt-leb (made (get_or m i 0)) 4096 g)

pub numbers_end : (m : List ℕ) (i n : ℕ) → n ≤ i → numbers_good m i (n - i) ≡ true
unfolding numbers_good
numbers_end m i n h = let d : n - i ≡ 0 = omega arith in rw d

-- ---- numbers that pass a test

pub member_append : (l : ℕ) (xs ys : List ℕ) → member l (xs ++ ys) ≡ (member l xs || member l ys)
member_append l [] ys = refl
member_append l (x ∷ xs) ys = by (eqb l x) (member_append l xs ys)
  where
    by : (t : Bool) → member l (xs ++ ys) ≡ (member l xs || member l ys) → (t || member l (xs ++ ys)) ≡ ((t || member l xs) || member l ys)
    by true e = refl
    by false e = e

module _ (t : ℕ → Bool) where
  -- what number i adds
  abbrev one : ℕ → List ℕ
  one i = cond (t i) (i ∷ []) []

  from_suc : (i n : ℕ) → passing t i (suc n) ≡ passing t i n ++ one (i + n)
  unfolding passing
  from_suc i zero = rw add-zero
  from_suc i (suc n) =
      let d : i + 1 + n ≡ i + suc n = omega arith in
      by (t i) (rw d at (from_suc (i + 1) n))
    where
      by : (b : Bool) → passing t (i + 1) (suc n) ≡ passing t (i + 1) n ++ one (i + suc n)
          → cond b (i ∷ passing t (i + 1) (suc n)) (passing t (i + 1) (suc n)) ≡ cond b (i ∷ passing t (i + 1) n) (passing t (i + 1) n) ++ one (i + suc n)
      by true e = ap (λ (r : List ℕ). i ∷ r) e
      by false e = e

  pub from_short : (i n : ℕ) → length (passing t i n) ≤ n
  unfolding passing
  from_short i zero = omega arith
  from_short i (suc n) = by (t i) (from_short (i + 1) n)
    where
      by : (b : Bool) → length (passing t (i + 1) n) ≤ n → length (cond b (i ∷ passing t (i + 1) n) (passing t (i + 1) n)) ≤ suc n
      by true h = omega arith
      by false h = omega arith

  rises_from : (i n : ℕ) → Rises (passing t i n) × ((l : ℕ) → l < i → Rises (l ∷ passing t i n))
  unfolding passing
  rises_from i zero = (tt, λ l h. tt)
  rises_from i (suc n) = by (t i) (rises_from (i + 1) n)
    where
      by : (b : Bool) → Rises (passing t (i + 1) n) × ((l : ℕ) → l < i + 1 → Rises (l ∷ passing t (i + 1) n))
          → Rises (cond b (i ∷ passing t (i + 1) n) (passing t (i + 1) n)) × ((l : ℕ) → l < i → Rises (l ∷ cond b (i ∷ passing t (i + 1) n) (passing t (i + 1) n)))
      by true h = (h.1 i (omega arith), λ l g. (g, h.1 i (omega arith)))
      by false h = (h.0, λ l g. h.1 l (omega arith))

  -- of the first n numbers
  pub exact_of : (n l : ℕ) → member l (passing t 0 n) ≡ (ltb l n && t l)
  unfolding passing
  exact_of zero l = rw (le-ltb l 0 (omega arith))
  exact_of (suc n) l =
      let d : passing t 0 (suc n) ≡ passing t 0 n ++ one n = from_suc 0 n ∙ rw zero-add in
      ap (member l) d ∙ member_append l (passing t 0 n) (one n) ∙ rw (exact_of n l) (by (eqb l n) refl (ltb l n) refl)
    where
      other : (b : Bool) → (l ≡ n → ⊥) → member l (cond b (n ∷ []) []) ≡ false
      other true h = rw (ne_eqb l n h)
      other false h = refl

      own : (b : Bool) → member l (cond b (l ∷ []) []) ≡ b
      own true = rw (eq-eqb l l refl)
      own false = refl

      by : (b : Bool) → eqb l n ≡ b → (u : Bool) → ltb l n ≡ u → ((ltb l n && t l) || member l (one n)) ≡ (ltb l (suc n) && t l)
      by true e u f =
          let x = eqb-true l n e in
          rw (le-ltb l n (omega arith), lt-ltb l (suc n) (omega arith), ← x) (own (t l))
      by false e true f =
          let x = ltb-true l n f in
          rw (f, lt-ltb l (suc n) (omega arith), other (t n) (eqb-false l n e)) (or_false (t l))
      by false e false f =
          let x = ltb-false l n f in
          let h : l ≡ n → ⊥ = eqb-false l n e in
          rw (f, le-ltb l (suc n) (omega (arith, h)), other (t n) h)

-- the same by a test that agrees
pub passing_same : (t u : ℕ → Bool) (i n : ℕ) → ((l : ℕ) → l < i + n → t l ≡ u l) → passing t i n ≡ passing u i n
unfolding passing
passing_same t u i zero h = refl
passing_same t u i (suc n) h = rw (h i (omega arith), passing_same t u (i + 1) n (λ l g. h l (omega arith)))

pub rising : Rising
rising m = (rises_from (λ l. is_unused (get_or m l 0)) 0 2039).0

pub exact : Exact
exact m l = exact_of (λ k. is_unused (get_or m k 0)) 2039 l

-- ---- the loop that writes them

sets_last : (l : List ℕ) (at : ℕ) (xs : List ℕ) (x : ℕ) → sets l at (xs ++ (x ∷ [])) ≡ set (sets l at xs) (at + length xs) x
sets_last l at [] x = rw add-zero
sets_last l at (y ∷ xs) x =
    let e : suc at + length xs ≡ at + suc (length xs) = omega arith in
    sets_last (set l at y) (suc at) xs x ∙ ap (λ (k : ℕ). set (sets (set l at y) (suc at) xs) k x) e

-- k are written, of those below i
abbrev pub Written : (ℕ → Bool) → (i : ℕ) → (out₀ out : List ℕ) → (k : ℕ) → Type 0
Written t i out₀ out k = (out ≡ sets out₀ 0 (passing t 0 i)) × (k ≡ length (passing t 0 i))

pub none_written : (t : ℕ → Bool) (out : List ℕ) → Written t 0 out out 0
unfolding passing
none_written t out = (refl, refl)

module _ (t : ℕ → Bool) (out₀ out : List ℕ) (i k : ℕ) (w : Written t i out₀ out k) where
  pub one_written : t i ≡ true → Written t (i + 1) out₀ (set out k i) (k + 1)
  one_written e =
      let f : passing t 0 (i + 1) ≡ passing t 0 i ++ (i ∷ []) = rw (add-one i, from_suc t 0 i, zero-add, e) in
      let g : 0 + length (passing t 0 i) ≡ k = omega arith in (
        rw f (sym (sets_last out₀ 0 (passing t 0 i) i ∙ rw (g, w.0))),
        rw f (omega (arith, length-append (passing t 0 i) (i ∷ []))),
      )

  pub same_written : t i ≡ false → Written t (i + 1) out₀ out k
  same_written e =
      let f : passing t 0 (i + 1) ≡ passing t 0 i = rw (add-one i, from_suc t 0 i, zero-add, e) (append-nil (passing t 0 i)) in
      rw f w

-- ---- the list itself, where it is not refused

pub is_list : (m : List ℕ) (a : Asm) → a.closed ≡ true → sound 65536 a ≡ true → numbers_good m 0 2039 ≡ true → listed m a ≡ accepted (unused_in m)
unfolding listed
is_list m a c s g = rw (s, g, c)
