-- Numbers below 10,000.
use mathlib.Core.Path.{◌≡◌, refl, sym, ap, ◌∙◌}
use mathlib.Core.Bool.{Bool, true, false, cond, ◌&&◌, not}
use mathlib.Core.Option.{Option, some, none}
use mathlib.Core.List.{List, [], ◌∷◌, append-nil}
use Prim.Native.Nat.{ℕ, zero, suc, ◌+◌, ◌*◌, ◌-◌, ◌^◌, ◌<◌, ◌≤◌}
use native.Mathlib.Nat.{pow-le-pow_right}
use native.Mathlib.Omega.{arith}
use borrow.Author.Tests.{lt-ltb, le-ltb, ltb-true, ltb-false}
use lib.Dec.{eqb, ltb}
use lib.ListN.{length, get_or}
use Rattle.text.specs.Readers.{digit_value, read_from, read_decimal, split}
use Rattle.text.specs.Inner.Parts.{Decimal}
use Rattle.std.specs.Prelude.{Some, None}
use Rattle.text.specs.Inner.Short.{capped, below, short_of}
use Rattle.text.specs.Fields.{commas}
use Rattle.text.proofs.Answers.{empty, alone, leading, led}
use Rattle.text.proofs.Numerals.{digit_0, decimal_high, decimal_read}
use Rattle.text.proofs.Joined.{free, split_join, free_decimal}

-- ---- what is read

-- a number has no comma, so it is the only field
pub one_field : (t : List ℕ) (v : ℕ) → read_decimal t ≡ some v → split t ≡ t ∷ []
unfolding commas
one_field t v e =
    let f : free t ≡ true = rw (decimal_read t v e) at (free_decimal v) in
    rw (append-nil t) at (split_join t [] f refl)

pub short_read : (t : List ℕ) → short_of t < 10000 → read_decimal t ≡ some (short_of t)
unfolding short_of
short_read t h = go (read_decimal t) h
  where
    by : (n : ℕ) (b : Bool) → cond b n 10000 < 10000 → some n ≡ some (cond b n 10000)
    by n true h = refl
    by n false h = absurd (omega arith)

    go : (o : Option ℕ) → capped o < 10000 → o ≡ some (capped o)
    go none h = absurd (omega arith)
    go (some n) h = by n (ltb n 10000) h

is_short : (s : List ℕ) (n : ℕ) → n < 10000 → read_decimal s ≡ some n → n ≡ short_of s
unfolding short_of
is_short s n h e = rw (e, lt-ltb n 10000 h)

module _ (s : List ℕ) where
  pub none_below : 10000 ≡ short_of s → None ≡ below 10000 (short_of s)
  none_below e = rw (← e)

  pub some_below : (v : ℕ) → v < 10000 → v ≡ short_of s → Some v ≡ below 10000 (short_of s)
  some_below v h e = rw (← e, lt-ltb v 10000 h)

no_number : (s : List ℕ) → read_decimal s ≡ none → 10000 ≡ short_of s
unfolding short_of
no_number s e = rw e

-- ---- a number has as many digits as it needs

from_power : (s : List ℕ) (n k : ℕ) → read_decimal s ≡ some n → 0 < k → k < length s → 10 ^ k ≤ n
from_power [] n k e z h = absurd (omega arith)
from_power (c ∷ cs) n k e z h =
    let p : 10 ^ k ≤ 10 ^ length cs = pow-le-pow_right (omega arith) (omega arith) in
    omega (arith, decimal_high c cs n e (omega arith), p)

-- a field of more than k bytes is no number below 10 ^ k
pub long_field : (s : List ℕ) (k : ℕ) → 0 < k → k ≤ 4 → k < length s → 10 ^ k ≤ short_of s
unfolding short_of
long_field s k z m h = go (read_decimal s) refl
  where
    most : 10 ^ k ≤ 10 ^ 4
    most = pow-le-pow_right (omega arith) m

    by : (n : ℕ) (b : Bool) → 10 ^ k ≤ n → 10 ^ k ≤ cond b n 10000
    by n true g = g
    by n false g = omega (arith, most)

    go : (o : Option ℕ) → read_decimal s ≡ o → 10 ^ k ≤ capped o
    go none e = omega (arith, most)
    go (some n) e = by n (ltb n 10000) (from_power s n k e z h)

pub long_number : (s : List ℕ) → 4 < length s → 10000 ≡ short_of s
unfolding short_of
long_number s h = go (read_decimal s) refl
  where
    go : (o : Option ℕ) → read_decimal s ≡ o → 10000 ≡ capped o
    go none e = refl
    go (some n) e = rw (le-ltb n 10000 (omega (arith, from_power s n 4 e (omega arith) h)))

-- ---- what is no number

none_from : (v : ℕ) (s : List ℕ) (i : ℕ) → i < length s → 10 ≤ digit_value (get_or s i 0) → read_from 10 v s ≡ none
unfolding read_from
none_from v [] i h e = absurd (omega arith)
none_from v (c ∷ cs) zero h e = rw (le-ltb (digit_value c) 10 e)
none_from v (c ∷ cs) (suc i) h e = go (ltb (digit_value c) 10) (none_from (v * 10 + digit_value c) cs i (omega arith) e)
  where
    go : (t : Bool) → read_from 10 (v * 10 + digit_value c) cs ≡ none → cond t (read_from 10 (v * 10 + digit_value c) cs) none ≡ none
    go true f = f
    go false f = refl

pub none_in : (s : List ℕ) (i : ℕ) → i < length s → 10 ≤ digit_value (get_or s i 0) → read_decimal s ≡ none
unfolding read_decimal
none_in [] i h e = absurd (omega arith)
none_in (c ∷ cs) i h e = rw (none_from 0 (c ∷ cs) i h e) (go (eqb c 48 && not (eqb (length cs) 0)))
  where
    go : (t : Bool) → cond {A = Option ℕ} t none none ≡ none
    go true = refl
    go false = refl

module _ (s : List ℕ) where
  pub no_bytes : length s ≡ 0 → 10000 ≡ short_of s
  no_bytes h = no_number s (empty s h)

  pub no_digit : (i x : ℕ) → i < length s → Decimal (get_or s i 0) x → 9 < x → 10000 ≡ short_of s
  no_digit i x h d e = no_number s (none_in s i h (d.1 e))

  pub zero_led : (x : ℕ) → 1 < length s → Decimal (get_or s 0 0) x → x ≡ 0 → 10000 ≡ short_of s
  zero_led x h d e =
      let z : digit_value (get_or s 0 0) ≡ 0 = sym (d.0 (omega arith)) ∙ e in
      no_number s (leading s (λ k. omega arith) (λ k. omega arith) (digit_0 (get_or s 0 0) z))

  -- of two bytes, the first a 0
  pub first_low : (x : ℕ) → length s ≤ 2 → Decimal (get_or s 0 0) x → x < length s - 1 → 10000 ≡ short_of s
  first_low x m d h = zero_led x (omega arith) d (omega arith)

-- ---- digits

one_more : (v c x : ℕ) (cs : List ℕ) → Decimal c x → x < 10 → read_from 10 v (c ∷ cs) ≡ read_from 10 (v * 10 + x) cs
unfolding read_from
one_more v c x cs d h = rw (← (d.0 h), lt-ltb x 10 h)

ends_in : (v n : ℕ) → v ≡ n → read_from 10 v [] ≡ some n
unfolding read_from
ends_in v n e = ap some e

not_zero : (c x : ℕ) → Decimal c x → (x ≡ 0 → ⊥) → x < 10 → c ≡ 48 → ⊥
not_zero c x d z h e = z (rw e at (d.0 h))

one_value : (a x : ℕ) → Decimal a x → x < 10 → x ≡ short_of (a ∷ [])
one_value a x d h = is_short (a ∷ []) x (omega arith) (alone (a ∷ []) refl ∙ one_more 0 a x [] d h ∙ ends_in _ _ (omega arith))

module _ (a b x y : ℕ) (da : Decimal a x) (db : Decimal b y) (z : x ≡ 0 → ⊥) (hx : x < 10) (hy : y < 10) where
  first_led : (s : List ℕ) → read_decimal (a ∷ b ∷ s) ≡ read_from 10 ((0 * 10 + x) * 10 + y) s
  first_led s =
      led (a ∷ b ∷ s) (λ e. omega arith) (λ e. omega arith) (not_zero a x da z hx)
      ∙ one_more 0 a x (b ∷ s) da hx ∙ one_more (0 * 10 + x) b y s db hy

  two_values : x * 10 + y ≡ short_of (a ∷ b ∷ [])
  two_values = is_short (a ∷ b ∷ []) (x * 10 + y) (omega arith) (first_led [] ∙ ends_in _ _ (omega arith))

  module _ (c w : ℕ) (dc : Decimal c w) (hw : w < 10) where
    three_values : x * 100 + y * 10 + w ≡ short_of (a ∷ b ∷ c ∷ [])
    three_values = is_short (a ∷ b ∷ c ∷ []) (x * 100 + y * 10 + w) (omega arith) (first_led (c ∷ []) ∙ one_more _ c w [] dc hw ∙ ends_in _ _ (omega arith))

    four_values : (d u : ℕ) → Decimal d u → u < 10 → x * 1000 + y * 100 + w * 10 + u ≡ short_of (a ∷ b ∷ c ∷ d ∷ [])
    four_values d u dd hu = is_short (a ∷ b ∷ c ∷ d ∷ []) (x * 1000 + y * 100 + w * 10 + u) (omega arith) (first_led (c ∷ d ∷ []) ∙ one_more _ c w (d ∷ []) dc hw ∙ one_more _ d u [] dd hu ∙ ends_in _ _ (omega arith))

-- the first digit's part, where there may be one
pub times_few : (x n m : ℕ) → x ≤ m → n ≤ 1 → x * n ≤ m
times_few x zero m h k = omega arith
times_few x (suc zero) m h k = omega arith
times_few x (suc (suc n)) m h k = absurd (omega arith)

-- the same byte has the same digit
same_digit : (c x y : ℕ) → Decimal c x → Decimal c y → y ≤ 9 → x ≤ 9
same_digit c x y dx dy h = go (ltb 9 x) refl
  where
    go : (t : Bool) → ltb 9 x ≡ t → x ≤ 9
    go true e = absurd (omega (arith, dx.1 (ltb-true 9 x e), dy.0 (omega arith)))
    go false e = ltb-false 9 x e

-- n + 1 digits that make a number below 100
pub few_below : (c d x y n : ℕ) → n ≤ 1 → (n ≡ 0 → d ≡ c) → Decimal c x → Decimal d y → y ≤ 9 → x * 10 * n + y ≤ 99 → x ≤ 9
few_below c d x y zero m e dx dy h l = same_digit c x y dx (rw (e refl) at dy) h
few_below c d x y (suc zero) m e dx dy h l = omega arith
few_below c d x y (suc (suc n)) m e dx dy h l = absurd (omega arith)

-- one or two digits, which are first and last
module _ (x y : ℕ) where
  pub few_digits : (s : List ℕ) → 0 < length s → length s ≤ 2 → Decimal (get_or s 0 0) x → Decimal (get_or s (length s - 1) 0) y → length s - 1 ≤ x → x ≤ 9 → y ≤ 9 → x * 10 * (length s - 1) + y ≡ short_of s
  few_digits [] z m dx dy f g h = absurd (omega arith)
  few_digits (a ∷ []) z m dx dy f g h = omega arith ∙ one_value a y dy (omega arith)
  few_digits (a ∷ b ∷ []) z m dx dy f g h = omega arith ∙ two_values a b x y dx dy (λ e. omega arith) (omega arith) (omega arith)
  few_digits (a ∷ b ∷ c ∷ s) z m dx dy f g h = absurd (omega arith)

-- three or four, of which the last three are named
module _ (x y w u : ℕ) where
  pub more_values : (s : List ℕ) → 2 < length s → length s ≤ 4 → Decimal (get_or s 0 0) x → Decimal (get_or s (length s - 3) 0) y → Decimal (get_or s (length s - 2) 0) w → Decimal (get_or s (length s - 1) 0) u → (x ≡ 0 → ⊥) → x ≤ 9 → y ≤ 9 → w ≤ 9 → u ≤ 9
      → x * 1000 * (length s - 3) + y * 100 + w * 10 + u ≡ short_of s
  more_values [] l m dx dy dw du z hx hy hw hu = absurd (omega arith)
  more_values (a ∷ []) l m dx dy dw du z hx hy hw hu = absurd (omega arith)
  more_values (a ∷ b ∷ []) l m dx dy dw du z hx hy hw hu = absurd (omega arith)
  more_values (a ∷ b ∷ c ∷ []) l m dx dy dw du z hx hy hw hu =
      omega arith ∙ three_values a b y w dy dw (λ e. z (same_zero e)) (omega arith) (omega arith) c u du (omega arith)
    where
      same_zero : y ≡ 0 → x ≡ 0
      same_zero e = dx.0 (omega arith) ∙ sym (dy.0 (omega arith)) ∙ e
  more_values (a ∷ b ∷ c ∷ d ∷ []) l m dx dy dw du z hx hy hw hu =
      omega arith ∙ four_values a b x y dx dy z (omega arith) (omega arith) c w dw (omega arith) d u du (omega arith)
  more_values (a ∷ b ∷ c ∷ d ∷ e ∷ s) l m dx dy dw du z hx hy hw hu = absurd (omega arith)
