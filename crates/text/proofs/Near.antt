-- Numbers of the fast path that a comma ends.
use mathlib.Core.Path.{◌≡◌, refl, ap}
use mathlib.Core.Bool.{Bool, true, false, cond}
use mathlib.Core.Option.{Option, some, none}
use mathlib.Core.List.{List, []}
use Prim.Native.Nat.{ℕ, ◌+◌, ◌*◌, ◌-◌, ◌<◌, ◌≤◌}
use native.Mathlib.Omega.{arith}
use borrow.Author.Tests.{lt-ltb, le-ltb, ltb-true, ltb-false, lt-leb, le-leb, eq-eqb, ne_eqb, eqb-true, eqb-false}
use lib.Dec.{eqb, ltb, leb}
use lib.ListN.{length, get_or, take, drop, length-drop}
use lib.Seq.{length-take-le, get_or-take, get_or-drop}
use Rattle.text.specs.Readers.{numeral, upto, field, end_from}
use Rattle.text.specs.Inner.Parts.{Decimal, few}
use Rattle.text.specs.Inner.Short.{below, capped, short_of, near_number, near}
use Rattle.text.specs.declared.Number.TheVariants.{Value, TooBig}
use Rattle.std.specs.Prelude as rust
use Rattle.std.specs.Prelude.{option_and_then, MatchOption}
use Rattle.text.specs.declared.Number.{Number}
use Rattle.std.specs.Prelude.{Some, None}
use Rattle.text.proofs.Once.{end_is}
use Rattle.text.proofs.Steps.{at, off, ends_near}
use Rattle.text.proofs.Short.{long_field, no_bytes, no_digit, first_low, few_digits, few_below, times_few}

-- ---- as the reader of any number has them

module _ (r : rust.Option ℕ) where
  pub few_is : (o : rust.Option Number) → MatchOption o (r ≡ None) (λ n. r ≡ few n) → r ≡ option_and_then few o
  few_is None h = h
  few_is (Some n) h = h

pub few_read : (o : Option ℕ) → option_and_then few (numeral o) ≡ below 10000 (capped o)
few_read none = refl
few_read (some n) = by (ltb n 18446744073709551616) (ltb n 10000) refl refl
  where
    by : (t u : Bool) → ltb n 18446744073709551616 ≡ t → ltb n 10000 ≡ u → few (cond t (Value n) TooBig) ≡ below 10000 (cond u n 10000)
    by true true h g = refl
    by true false h g = rw g
    by false true h g = absurd (omega (arith, ltb-false n 18446744073709551616 h, ltb-true n 10000 g))
    by false false h g = refl

-- ---- one or two digits

module _ (s : List ℕ) (a : ℕ) where
  is_none : near_number s a ≡ 100 → None ≡ near s a
  is_none e = rw e

  pub near_few : length s < a + 3 → None ≡ near s a
  unfolding near_number
  near_few h = is_none (rw (lt-leb (a + 3) (length s) h))

  large : 100 ≤ short_of (field (drop a s)) → None ≡ near s a
  unfolding near_number
  large h = is_none (rw (le-ltb (short_of (field (drop a s))) 100 h, off (ltb (end_from s a) (length s)), off (leb (a + 3) (length s))))

  is_near : a + 3 ≤ length s → end_from s a < length s → (v e : ℕ) → v ≡ short_of (field (drop a s)) → v < 100 → e ≡ end_from s a → Some (v, e) ≡ near s a
  unfolding near_number
  is_near h l v e ev hv ee = rw (← ev, lt-ltb v 100 hv, lt-ltb (end_from s a) (length s) l, le-leb (a + 3) (length s) h, lt-ltb v 100 hv, ← ee)

  module _ (e : ℕ) (h : a + 2 < length s) (q : e ≡ cond (eqb (get_or s (a + 1) 0) 44) (a + 1) (a + 2)) where
    -- an empty field
    comma_first : get_or s a 0 ≡ 44 → 100 ≤ short_of (field (drop a s))
    unfolding upto
    comma_first k = rw (at s a (omega arith), eq-eqb _ _ k) (omega (arith, no_bytes [] refl))

    long : (get_or s a 0 ≡ 44 → ⊥) → (get_or s (a + 1) 0 ≡ 44 → ⊥) → (get_or s (a + 2) 0 ≡ 44 → ⊥) → 100 ≤ short_of (field (drop a s))
    unfolding upto
    long f g k =
        let x : a + 1 + 1 ≡ a + 2 = omega arith in
        rw (at s a (omega arith), at s (a + 1) (omega arith), x, at s (a + 2) h, ne_eqb _ _ f, ne_eqb _ _ g, ne_eqb _ _ k)
        (long_field _ 2 (omega arith) (omega arith) (omega arith))

    pub no_comma : (get_or s e 0 ≡ 44 → ⊥) → None ≡ near s a
    no_comma n = large (go (eqb (get_or s a 0) 44) refl)
      where
        by : (get_or s a 0 ≡ 44 → ⊥) → (t : Bool) → eqb (get_or s (a + 1) 0) 44 ≡ t → e ≡ cond t (a + 1) (a + 2) → 100 ≤ short_of (field (drop a s))
        by f true u v = absurd (n (rw v (eqb-true _ _ u)))
        by f false u v = long f (eqb-false _ _ u) (rw v at n)

        go : (t : Bool) → eqb (get_or s a 0) 44 ≡ t → 100 ≤ short_of (field (drop a s))
        go true u = comma_first (eqb-true _ _ u)
        go false u = by (eqb-false _ _ u) (eqb (get_or s (a + 1) 0) 44) refl q

    module _ (k : get_or s e 0 ≡ 44) (above : a < e) (within : e ≤ a + 2) (x y : ℕ) (dx : Decimal (get_or s a 0) x) (dy : Decimal (get_or s (e - 1) 0) y) where
      module _ (f : get_or s a 0 ≡ 44 → ⊥) where
        ends : e ≡ end_from s a
        ends = ends_near s a e h f q k

        is_field : field (drop a s) ≡ take (e - a) (drop a s)
        is_field = let u : upto (drop a s) ≡ e - a = omega (arith, ends, end_is s a (omega arith)) in rw u

        size : length (take (e - a) (drop a s)) ≡ e - a
        size = length-take-le (e - a) (drop a s) (omega (arith, length-drop a s))

        byte : (i j : ℕ) → i < e - a → j ≡ a + i → get_or (take (e - a) (drop a s)) i 0 ≡ get_or s j 0
        byte i j l g = rw (get_or-take (e - a) (drop a s) i 0 l, get_or-drop a s i 0, g)

        first : Decimal (get_or (take (e - a) (drop a s)) 0 0) x
        first = rw (byte 0 a (omega arith) (omega arith)) dx

        last : Decimal (get_or (take (e - a) (drop a s)) (length (take (e - a) (drop a s)) - 1) 0) y
        last = rw (size, byte (e - a - 1) (e - 1) (omega arith) (omega arith)) dy

      none_if : ((get_or s a 0 ≡ 44 → ⊥) → 10000 ≡ short_of (take (e - a) (drop a s))) → None ≡ near s a
      none_if p = large (go (eqb (get_or s a 0) 44) refl)
        where
          go : (t : Bool) → eqb (get_or s a 0) 44 ≡ t → 100 ≤ short_of (field (drop a s))
          go true u = comma_first (eqb-true _ _ u)
          go false u = let f = eqb-false _ _ u in rw (is_field f) (omega (arith, p f))

      pub near_low : x < e - a - 1 → None ≡ near s a
      near_low l = none_if (λ f. first_low _ x (omega (arith, size f)) (first f) (omega (arith, size f)))

      pub near_last : 9 < y → None ≡ near s a
      near_last l = none_if (λ f. no_digit _ _ y (omega (arith, size f)) (last f) l)

      pub near_above : y ≤ 9 → 99 < x * 10 * (e - a - 1) + y → None ≡ near s a
      near_above g l =
          let m : x ≤ 9 → ⊥ = λ m. omega (arith, times_few (x * 10) (e - a - 1) 90 (omega arith) (omega arith)) in
          none_if (λ f. no_digit _ 0 x (omega (arith, size f)) (first f) (omega (arith, m)))

      pub near_yes : e - a - 1 ≤ x → y ≤ 9 → x * 10 * (e - a - 1) + y ≤ 99 → Some (x * 10 * (e - a - 1) + y, e) ≡ near s a
      near_yes l g m =
          let b : x ≤ 9 = few_below (get_or s a 0) (get_or s (e - 1) 0) x y (e - a - 1) (omega arith) (λ z. ap (λ (i : ℕ). get_or s i 0) (omega arith)) dx dy g m in
          let f : get_or s a 0 ≡ 44 → ⊥ = λ f. omega (arith, rw f at (dx.0 (omega arith))) in
          let v : x * 10 * (e - a - 1) + y ≡ short_of (take (e - a) (drop a s)) = rw (size f) at (few_digits x y (take (e - a) (drop a s)) (omega (arith, size f)) (omega (arith, size f)) (first f) (last f) (omega (arith, size f)) b g) in
          is_near (omega arith) (omega (arith, ends f)) (x * 10 * (e - a - 1) + y) e (rw (is_field f) v) (omega arith) (ends f)
