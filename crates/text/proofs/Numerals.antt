-- Reading a number's bytes gives the number back, and what reads to a number is its bytes.
use mathlib.Core.Path.{◌≡◌, refl, sym, ap, ◌∙◌}
use mathlib.Core.Bool.{Bool, true, false, cond, ◌&&◌}
use mathlib.Core.Option.{Option, some, none, map, some-injective, none-ne-some}
use mathlib.Core.List.{List, [], ◌∷◌}
use Prim.Native.Nat.{ℕ, zero, suc, ◌+◌, ◌*◌, ◌-◌, ◌/◌, ◌%◌, ◌^◌, ◌<◌, ◌≤◌}
use native.Mathlib.Nat.{mul_comm, div-one, div-add-mod', div-div-eq-div-mul, mul-add-div_right, mul-add-mod_self_right, mod-lt, mod-eq_of_lt, div-eq_of_lt, div-lt_iff_lt-mul, le-div_iff_mul-le, pow-zero, pow-succ', pow-le-pow_right}
use native.Mathlib.Omega.{arith}
use borrow.Author.Tests.{lt-ltb, le-ltb, ltb-false, ltb-true, eq-eqb, ne_eqb, eqb-true, eqb-false, lt-leb, le-leb, leb-true, leb-false}
use lib.Dec.{eqb, ltb, leb}
use lib.IntN.{ℤ, pos, negsuc}
use lib.ListN.{length}
use Rattle.text.specs.Digits.{digit_byte, digits, above, decimal, integer_bytes, word_bytes}
use Rattle.text.specs.Readers.{digit_value, read_from, read_decimal, negative, read_integer, read_word}
use Rattle.text.proofs.Steps.{off}

-- ---- one digit

byte_value : (d : ℕ) → d < 16 → digit_value (digit_byte d) ≡ d
byte_value d h = go (ltb d 10) refl
  where
    go : (t : Bool) → ltb d 10 ≡ t → digit_value (cond t (48 + d) (87 + d)) ≡ d
    go true e =
        let g = ltb-true d 10 e in
        rw (le-leb 48 (48 + d) (omega arith), le-leb (48 + d) 57 (omega arith)) (omega arith)
    go false e =
        let g = ltb-false d 10 e in
        rw (le-leb 48 (87 + d) (omega arith), lt-leb (87 + d) 57 (omega arith), le-leb 97 (87 + d) (omega arith), le-leb (87 + d) 102 (omega arith)) (omega arith)

between : (a c b : ℕ) (t u : Bool) → leb a c ≡ t → leb c b ≡ u → t && u ≡ true → (a ≤ c) × (c ≤ b)
between a c b true true e f g = (leb-true a c e, leb-true c b f)
between a c b true false e f g = absurd (let z : ◌≡◌ {A = ℕ} 0 1 = cc in omega arith)
between a c b false u e f g = absurd (let z : ◌≡◌ {A = ℕ} 0 1 = cc in omega arith)

pub value_byte : (c : ℕ) → digit_value c < 16 → digit_byte (digit_value c) ≡ c
value_byte c h = go (leb 48 c && leb c 57) (leb 97 c && leb c 102) refl refl h
  where
    go : (t u : Bool) → leb 48 c && leb c 57 ≡ t → leb 97 c && leb c 102 ≡ u → cond t (c - 48) (cond u (c - 87) 16) < 16 → digit_byte (cond t (c - 48) (cond u (c - 87) 16)) ≡ c
    go true u e f g =
        let r = between 48 c 57 (leb 48 c) (leb c 57) refl refl e in
        rw (lt-ltb (c - 48) 10 (omega arith)) (omega arith)
    go false true e f g =
        let r = between 97 c 102 (leb 97 c) (leb c 102) refl refl f in
        rw (le-ltb (c - 87) 10 (omega arith)) (omega arith)
    go false false e f g = absurd (omega arith)

-- ---- digits of a base

module _ (b : ℕ) (p : 0 < b) (q : b ≤ 16) where
  shifted : (n k : ℕ) → n / b ^ suc k ≡ n / b ^ k / b
  shifted n k = rw (pow-succ' b k, mul_comm b (b ^ k)) (sym (div-div-eq-div-mul n (b ^ k) b))

  alone : (n : ℕ) → n / b ^ 0 ≡ n
  alone n = rw (pow-zero b) (div-one n)

  pub read_digits : (k n v : ℕ) → n / b ^ k ≡ v → read_from b v (digits b k n) ≡ some n
  unfolding read_from digits
  read_digits zero n v e = ap some (sym e ∙ alone n)
  read_digits (suc k) n v e =
      let d = n / b ^ k % b in
      let h : d < b = mod-lt (n / b ^ k) p in
      let g : n / b ^ k ≡ v * b + d = sym (div-add-mod' (n / b ^ k) b) ∙ ap (λ (x : ℕ). x * b + d) (sym (shifted n k) ∙ e) in
      rw (byte_value d (omega arith), lt-ltb d b h) (read_digits k n (v * b + d) g)

  pub digits_read : (s : List ℕ) (v n : ℕ) → read_from b v s ≡ some n → (n / b ^ length s ≡ v) × (digits b (length s) n ≡ s)
  unfolding read_from digits
  digits_read [] v n e = (alone n ∙ sym (some-injective v n e), refl)
  digits_read (c ∷ cs) v n e = go (ltb (digit_value c) b) refl e (digits_read cs (v * b + digit_value c) n)
    where
      go : (t : Bool) → ltb (digit_value c) b ≡ t → cond t (read_from b (v * b + digit_value c) cs) none ≡ some n → (read_from b (v * b + digit_value c) cs ≡ some n → (n / b ^ length cs ≡ v * b + digit_value c) × (digits b (length cs) n ≡ cs)) → (n / b ^ suc (length cs) ≡ v) × (digit_byte (n / b ^ length cs % b) ∷ digits b (length cs) n ≡ c ∷ cs)
      go true h f r =
          let k = length cs in
          let x = digit_value c in
          let i = r f in
          let g : x < b = ltb-true x b h in
          (shifted n k ∙ rw i.0 (mul-add-div_right p v x ∙ rw (div-eq_of_lt g) (omega arith)), rw (i.1, i.0, mul-add-mod_self_right v b x, mod-eq_of_lt g, value_byte c (omega arith)))
      go false h f r = absurd (none-ne-some n f)

-- ---- decimal numbers

power : (k : ℕ) → 0 < 10 ^ k
power zero = omega arith
power (suc k) = rw (pow-succ' 10 k) (omega (arith, power k))

-- n has q digits above the lowest
abbrev Counted : (n q : ℕ) → Type 0
Counted n q = (n < 10 ^ suc q) × (0 < q → 10 ^ q ≤ n)

one_more : (n q : ℕ) → 10 ≤ n → Counted (n / 10) q → Counted n (suc q)
one_more n q h c = (rw (pow-succ' 10 (suc q)) (omega (arith, c.0)), λ z. go q c.1)
  where
    go : (q : ℕ) → (0 < q → 10 ^ q ≤ n / 10) → 10 ^ suc q ≤ n
    go zero l = h
    go (suc q) l = rw (pow-succ' 10 (suc q)) (omega (arith, l (omega arith)))

counted : (k n : ℕ) → n ≤ k → Counted n (above k n)
unfolding above
counted zero n h = (omega arith, λ z. absurd (omega arith))
counted (suc k) n h = go (ltb n 10) refl (λ (g : n / 10 ≤ k). counted k (n / 10) g)
  where
    go : (t : Bool) → ltb n 10 ≡ t → (n / 10 ≤ k → Counted (n / 10) (above k (n / 10))) → Counted n (cond t 0 (suc (above k (n / 10))))
    go true e r = (ltb-true n 10 e, λ z. absurd (omega arith))
    go false e r = let g = ltb-false n 10 e in one_more n (above k (n / 10)) g (r (omega arith))

-- no other count of digits is so
at_most : (n p q : ℕ) → Counted n p → Counted n q → p ≤ q
at_most n p q c d = go (leb p q) refl
  where
    go : (t : Bool) → leb p q ≡ t → p ≤ q
    go true e = leb-true p q e
    go false e =
        let g = leb-false p q e in
        let l = c.1 (omega arith) in
        let r : 10 ^ suc q ≤ 10 ^ p = pow-le-pow_right (omega arith) g in
        absurd (omega (arith, d.0, l))

above_is : (n q : ℕ) → Counted n q → above n n ≡ q
above_is n q c =
    let k = counted n n (omega arith) in
    let a = at_most n q (above n n) c k in
    let b = at_most n (above n n) q k c in
    omega arith

-- the first digit of a number of more than one digit is not 0
leads : (n q : ℕ) → 10 ^ suc q ≤ n → n < 10 ^ suc (suc q) → (digit_byte (n / 10 ^ suc q % 10) ≡ 48 → ⊥)
leads n q g h e =
    let x = n / 10 ^ suc q in
    let l : 1 ≤ x = (le-div_iff_mul-le (power (suc q))).1 (omega arith) in
    let u : x < 10 = (div-lt_iff_lt-mul (power (suc q))).1 (omega (arith, pow-succ' 10 (suc q))) in
    let d : digit_byte (x % 10) ≡ 48 + x = rw (mod-eq_of_lt u, lt-ltb x 10 u) in
    omega (arith, e, d)

read_digits_10 : (n p : ℕ) → n < 10 ^ p → read_from 10 0 (digits 10 p n) ≡ some n
read_digits_10 n p h = read_digits 10 (omega arith) (omega arith) p n 0 (div-eq_of_lt h)

-- the test for a leading zero
led : (c : ℕ) (cs : List ℕ) → (0 < length cs → c ≡ 48 → ⊥) → read_decimal (c ∷ cs) ≡ read_from 10 0 (c ∷ cs)
unfolding read_decimal
led c [] f = rw (off (eqb c 48))
led c (d ∷ cs) f = rw (ne_eqb c 48 (f (omega arith)))

decimal_of : (n q : ℕ) → Counted n q → read_decimal (digits 10 (suc q) n) ≡ some n
unfolding digits
decimal_of n q c = led (digit_byte (n / 10 ^ q % 10)) (digits 10 q n) (go q c) ∙ read_digits_10 n (suc q) c.0
  where
    go : (q : ℕ) → Counted n q → 0 < length (digits 10 q n) → digit_byte (n / 10 ^ q % 10) ≡ 48 → ⊥
    go zero c z = absurd (omega arith)
    go (suc q) c z = leads n q (c.1 (omega arith)) c.0

pub decimal_back : (n : ℕ) → read_decimal (decimal n) ≡ some n
unfolding decimal
decimal_back n = decimal_of n (above n n) (counted n n (omega arith))

-- what reads to n is n's bytes
not_led : (c : ℕ) (cs : List ℕ) (n : ℕ) → read_decimal (c ∷ cs) ≡ some n → (0 < length cs → c ≡ 48 → ⊥)
unfolding read_decimal
not_led c cs n e h z = go (ne_eqb (length cs) 0 (λ y. omega arith)) (eq-eqb c 48 z)
  where
    go : eqb (length cs) 0 ≡ false → eqb c 48 ≡ true → ⊥
    go f g = none-ne-some n (rw (g, f) at e)

pub digit_0 : (c : ℕ) → digit_value c ≡ 0 → c ≡ 48
digit_0 c e = sym (value_byte c (omega arith)) ∙ rw e

module _ (c : ℕ) (cs : List ℕ) (n : ℕ) (e : read_from 10 0 (c ∷ cs) ≡ some n) where
  abbrev k : ℕ
  k = length cs

  high : n / 10 ^ k ≡ digit_value c
  unfolding read_from
  high = go (ltb (digit_value c) 10) e
    where
      go : (t : Bool) → cond t (read_from 10 (0 * 10 + digit_value c) cs) none ≡ some n → n / 10 ^ k ≡ digit_value c
      go true f = (digits_read 10 (omega arith) (omega arith) cs (0 * 10 + digit_value c) n f).0 ∙ omega arith
      go false f = absurd (none-ne-some n f)

  count : (0 < length cs → c ≡ 48 → ⊥) → Counted n k
  count f =
      let r = (digits_read 10 (omega arith) (omega arith) (c ∷ cs) 0 n e).0 in (
        omega (arith, (div-lt_iff_lt-mul {k = 10 ^ suc k} {x = n} {y = 1} (power (suc k))).0 (omega arith)),
        λ z. go (eqb (digit_value c) 0) refl z,
      )
    where
      go : (t : Bool) → eqb (digit_value c) 0 ≡ t → 0 < k → 10 ^ k ≤ n
      go true h z = absurd (f z (digit_0 c (eqb-true (digit_value c) 0 h)))
      go false h z =
          let w = eqb-false (digit_value c) 0 h in
          let g : 1 ≤ n / 10 ^ k = omega (arith, high) in
          omega (arith, (le-div_iff_mul-le (power k)).0 g)

-- a number of more digits than one has no 0 in front, so it is large
pub decimal_high : (c : ℕ) (cs : List ℕ) (n : ℕ) → read_decimal (c ∷ cs) ≡ some n → 0 < length cs → 10 ^ length cs ≤ n
decimal_high c cs n e h = let f = not_led c cs n e in (count c cs n (sym (led c cs f) ∙ e) f).1 h

pub decimal_read : (s : List ℕ) (n : ℕ) → read_decimal s ≡ some n → decimal n ≡ s
unfolding decimal read_decimal
decimal_read [] n e = absurd (none-ne-some n e)
decimal_read (c ∷ cs) n e =
    let f = not_led c cs n e in
    let r : read_from 10 0 (c ∷ cs) ≡ some n = sym (led c cs f) ∙ e in
    rw (above_is n (length cs) (count c cs n r f)) (digits_read 10 (omega arith) (omega arith) (c ∷ cs) 0 n r).1

-- ---- whole numbers with a sign, and words

pub length_digits : (b k n : ℕ) → length (digits b k n) ≡ k
unfolding digits
length_digits b zero n = refl
length_digits b (suc k) n = ap suc (length_digits b k n)

nonempty : (n : ℕ) → decimal n ≡ digit_byte (n / 10 ^ above n n % 10) ∷ digits 10 (above n n) n
unfolding decimal digits
nonempty n = refl

no_minus : (d : ℕ) → eqb (digit_byte d) 45 ≡ false
no_minus d = go (ltb d 10)
  where
    go : (t : Bool) → eqb (cond t (48 + d) (87 + d)) 45 ≡ false
    go true = ne_eqb (48 + d) 45 (λ e. omega arith)
    go false = ne_eqb (87 + d) 45 (λ e. omega arith)

pub integer_back : (z : ℤ) → read_integer (integer_bytes z) ≡ some z
unfolding integer_bytes read_integer
integer_back (pos n) = rw (nonempty n, no_minus (n / 10 ^ above n n % 10)) (rw (← nonempty n, decimal_back n))
integer_back (negsuc n) = rw (decimal_back (suc n))

pub integer_read : (s : List ℕ) (z : ℤ) → read_integer s ≡ some z → integer_bytes z ≡ s
unfolding read_integer integer_bytes
integer_read [] z e = absurd (none-ne-some z e)
integer_read (c ∷ cs) z e = go (eqb c 45) refl e
  where
    minus : (o : Option ℕ) → read_decimal cs ≡ o → c ≡ 45 → negative o ≡ some z → integer_bytes z ≡ c ∷ cs
    minus none f g h = absurd (none-ne-some z h)
    minus (some zero) f g h = absurd (none-ne-some z h)
    minus (some (suc n)) f g h = rw (← some-injective (negsuc n) z h, g, decimal_read cs (suc n) f)

    plain : (o : Option ℕ) → read_decimal (c ∷ cs) ≡ o → map pos o ≡ some z → integer_bytes z ≡ c ∷ cs
    plain none f h = absurd (none-ne-some z h)
    plain (some n) f h = rw (← some-injective (pos n) z h) (decimal_read (c ∷ cs) n f)

    go : (t : Bool) → eqb c 45 ≡ t → cond t (negative (read_decimal cs)) (map pos (read_decimal (c ∷ cs))) ≡ some z → integer_bytes z ≡ c ∷ cs
    go true h f = minus (read_decimal cs) refl (eqb-true c 45 h) f
    go false h f = plain (read_decimal (c ∷ cs)) refl f

pub word_back : (n : ℕ) → n < 2 ^ 64 → read_word (word_bytes n) ≡ some n
unfolding word_bytes read_word
word_back n h = rw (eq-eqb (length (digits 16 16 n)) 16 (length_digits 16 16 n)) (read_digits 16 (omega arith) (omega arith) 16 n 0 (div-eq_of_lt h))

pub word_read : (s : List ℕ) (n : ℕ) → read_word s ≡ some n → (n < 2 ^ 64) × (word_bytes n ≡ s)
unfolding word_bytes read_word
word_read s n e = go (eqb (length s) 16) refl e
  where
    go : (t : Bool) → eqb (length s) 16 ≡ t → cond t (read_from 16 0 s) none ≡ some n → (n < 2 ^ 64) × (digits 16 16 n ≡ s)
    go true h f =
        let r = digits_read 16 (omega arith) (omega arith) s 0 n f in
        let l = eqb-true (length s) 16 h in
        ((div-lt_iff_lt-mul {k = 16 ^ 16} {y = 1} (omega arith)).0 (omega (arith, ap (λ (k : ℕ). n / 16 ^ k) l, r.0)), sym (ap (λ (k : ℕ). digits 16 k n) l) ∙ r.1)
    go false h f = absurd (none-ne-some n f)
