-- A mask walked upward from its lowest set bit comes to the registers that it saves. Assumes nothing.
use mathlib.Core.Path.{◌≡◌, refl, sym, ap, ◌∙◌, subst}
use mathlib.Core.Logic.{◌⊎◌, inl, inr}
use mathlib.Core.Bool.{Bool, true, false, cond}
use mathlib.Core.List.Memᴰ
use mathlib.Core.List.{List, [], ◌∷◌, Memᴰ}
use Prim.Native.Nat.{ℕ, zero, suc, ◌+◌, ◌-◌, ◌/◌, ◌%◌, ◌^◌, ◌<◌, ◌≤◌}
use native.Mathlib.Nat.{pow-suc, div-div-eq-div-mul, div-one, mul_comm, le_of_suc-le-suc, not-suc-le-zero, add-zero}
use native.Mathlib.Numerals.{add-one}
use native.Mathlib.Omega.{arith}
use lib.Pow.{shr_lt}
use lib.Arith.{lt-one}
use lib.Count.{count_trailing_zeros, under}
use lib.Dec.{eqb}
use lib.ListN.{length}
use Rattle.ast.specs.Mask.{preserved, in_mask, chosen, saved, is_preserved}
use Rattle.frame_code.proofs.Rows.{from}

-- i where the digit is set
abbrev pub one : ℕ → ℕ → List ℕ → List ℕ
one zero i l = l
one (suc b) i l = i ∷ l

-- the set digits of m, of which d are looked at, the lowest being number i
unfoldable pub digits : ℕ → ℕ → ℕ → List ℕ
digits zero i m = []
digits (suc d) i m = one (m % 2) i (digits d (suc i) (m / 2))

half : (m d : ℕ) → m < 2 ^ suc d → m / 2 < 2 ^ d
half m d h = shr_lt d 1 (subst (λ (x : ℕ). m < 2 ^ x) (sym (add-one d)) h)

two_pow : (m t : ℕ) → m / 2 / 2 ^ t ≡ m / 2 ^ suc t
two_pow m t = div-div-eq-div-mul m 2 (2 ^ t) ∙ ap (λ (k : ℕ). m / k) (mul_comm 2 (2 ^ t) ∙ sym (pow-suc 2 t))

pub no_digits : (d i : ℕ) → digits d i 0 ≡ []
unfolding digits
no_digits zero i = refl
no_digits (suc d) i = no_digits d (suc i)

-- of a number below 2 ^ d that is not 0, more digits tell the same place of the lowest set one
pub same_place : (d e m : ℕ) → d ≤ e → 0 < m → m < 2 ^ d → count_trailing_zeros e m ≡ count_trailing_zeros d m
unfolding count_trailing_zeros
same_place zero e m le p h = absurd (omega (arith, lt-one h))
same_place (suc d) zero m le p h = absurd (not-suc-le-zero le)
same_place (suc d) (suc e) m le p h = go (λ k. same_place d e (m / 2) (le_of_suc-le-suc le) k (half m d h)) (m % 2) refl
  where
    go : (0 < m / 2 → count_trailing_zeros e (m / 2) ≡ count_trailing_zeros d (m / 2)) → (r : ℕ) → m % 2 ≡ r → under r (count_trailing_zeros e (m / 2)) ≡ under r (count_trailing_zeros d (m / 2))
    go ih zero q = ap suc (ih (omega arith))
    go ih (suc r) q = refl

-- the lowest, and the rest above it
abbrev pub First : ℕ → ℕ → ℕ → ℕ → Type 0
First d i m t = (t < d) × (m / 2 ^ t / 2 < 2 ^ (d - suc t)) × (digits d i m ≡ (i + t) ∷ digits (d - suc t) (i + t + 1) (m / 2 ^ t / 2))

pub first : (d i m : ℕ) → 0 < m → m < 2 ^ d → First d i m (count_trailing_zeros d m)
unfolding count_trailing_zeros digits
first zero i m p h = absurd (omega (arith, lt-one h))
first (suc d) i m p h = go (λ k. first d (suc i) (m / 2) k (half m d h)) (m % 2) refl
  where
    go : (0 < m / 2 → First d (suc i) (m / 2) (count_trailing_zeros d (m / 2))) → (r : ℕ) → m % 2 ≡ r → First (suc d) i m (under r (count_trailing_zeros d (m / 2)))
    go rest zero q =
        let t = count_trailing_zeros d (m / 2) in
        let ih = rest (omega arith) in
        let e : m / 2 / 2 ^ t ≡ m / 2 ^ suc t = two_pow m t in
        let s : suc d - suc (suc t) ≡ d - suc t = omega arith in
        let u : suc i + t ≡ i + suc t = omega arith in (
          omega (arith, ih.0),
          rw (s, ← e) ih.1,
          ap (λ (b : ℕ). one b i (digits d (suc i) (m / 2))) q ∙ rw (s, ← e, ← u) ih.2,
        )
    go rest (suc r) q =
        let s : suc d - 1 ≡ d = omega arith in
        let u : i + 0 + 1 ≡ suc i = omega arith in (
          omega arith,
          rw (s, div-one) (half m d h),
          ap (λ (b : ℕ). one b i (digits d (suc i) (m / 2))) q ∙ rw (s, div-one, u, add-zero),
        )

-- ---- the walk and the test

chosen_same : (p q : ℕ → Bool) (rs : List ℕ) → ((r : ℕ) → Memᴰ r rs → p r ≡ q r) → chosen p rs ≡ chosen q rs
chosen_same p q [] h = refl
chosen_same p q (r ∷ rs) h = rw (h r (Memᴰ.head refl), chosen_same p q rs (λ k m. h k (Memᴰ.tail m)))

chosen_swap : (p q : ℕ → Bool) (rs : List ℕ) → chosen p (chosen q rs) ≡ chosen q (chosen p rs)
chosen_swap p q [] = refl
chosen_swap p q (r ∷ rs) = by (p r) (q r) refl refl (chosen_swap p q rs)
  where
    by : (a b : Bool) → p r ≡ a → q r ≡ b → chosen p (chosen q rs) ≡ chosen q (chosen p rs) → chosen p (cond b (r ∷ chosen q rs) (chosen q rs)) ≡ chosen q (cond a (r ∷ chosen p rs) (chosen p rs))
    by true true e f h = rw (e, f) (ap (λ (l : List ℕ). r ∷ l) h)
    by true false e f h = rw f h
    by false true e f h = rw e h
    by false false e f h = h

from_least : (i k r : ℕ) → Memᴰ r (from i k) → i ≤ r
from_least i zero r m = absurd (Memᴰ.not-nil m)
from_least i (suc k) r m = by (Memᴰ.cases_cons m) (from_least (suc i) k r)
  where
    by : (r ≡ i) ⊎ Memᴰ r (from (suc i) k) → (Memᴰ r (from (suc i) k) → suc i ≤ r) → i ≤ r
    by (inl e) f = omega (arith, e)
    by (inr n) f = omega (arith, f n)

digits_are : (d i m : ℕ) → digits d i m ≡ chosen (λ r. eqb (m / 2 ^ (r - i) % 2) 1) (from i d)
unfolding digits
digits_are zero i m = refl
digits_are (suc d) i m =
    let z : i - i ≡ 0 = omega arith in
    let t : digits d (suc i) (m / 2) ≡ chosen (λ r. eqb (m / 2 ^ (r - i) % 2) 1) (from (suc i) d) =
    digits_are d (suc i) (m / 2) ∙ chosen_same _ _ (from (suc i) d) (λ r n. up r (from_least (suc i) d r n))
    in
    rw (t, z, div-one) (by (m % 2) (omega arith) (chosen (λ r. eqb (m / 2 ^ (r - i) % 2) 1) (from (suc i) d)))
  where
    up : (r : ℕ) → suc i ≤ r → eqb (m / 2 / 2 ^ (r - suc i) % 2) 1 ≡ eqb (m / 2 ^ (r - i) % 2) 1
    up r h = let s : r - i ≡ suc (r - suc i) = omega arith in rw (s, two_pow m (r - suc i))

    by : (b : ℕ) → b < 2 → (l : List ℕ) → one b i l ≡ cond (eqb b 1) (i ∷ l) l
    by zero h l = refl
    by (suc zero) h l = refl
    by (suc (suc b)) h l = absurd (omega arith)

-- all registers, shut: choosing among them doubles at each
unfoldable registers : List ℕ
registers = from 0 32

registers_are : registers ≡ from 0 32
unfolding registers
registers_are = refl

preserved_are : chosen is_preserved registers ≡ preserved
unfolding registers
preserved_are = refl

module _ (mask d : ℕ) (rs : List ℕ) (e : rs ≡ from 0 d) where
  walk : chosen is_preserved (digits d 0 mask) ≡ chosen (in_mask mask) (chosen is_preserved rs)
  walk =
      ap (chosen is_preserved) (digits_are d 0 mask ∙ chosen_same (λ r. eqb (mask / 2 ^ (r - 0) % 2) 1) (in_mask mask) (from 0 d) (λ r n. let z : r - 0 ≡ r = omega arith in rw z))
      ∙ rw (← e) (chosen_swap is_preserved (in_mask mask) rs)

-- Of the set digits those that are preserved registers.
pub walked : (mask : ℕ) → chosen is_preserved (digits 32 0 mask) ≡ saved mask
unfolding saved
walked mask = walk mask 32 registers registers_are ∙ ap (chosen (in_mask mask)) preserved_are

-- the lowest set bit of m, whose bits stand for registers from p on, and the rest above it
abbrev pub Lowest : ℕ → ℕ → ℕ → Type 0
Lowest p m t = (p + t + 1 ≤ 32) × (m / 2 ^ t / 2 < 2 ^ (32 - (p + t + 1))) × (digits (32 - p) p m ≡ (p + t) ∷ digits (32 - (p + t + 1)) (p + t + 1) (m / 2 ^ t / 2))

-- while preserved registers are to come
pub lowest : (p m n : ℕ) → p ≤ 32 → m < 2 ^ (32 - p) → n ≡ length (chosen is_preserved (digits (32 - p) p m)) → 0 < n → Lowest p m (count_trailing_zeros 32 m)
lowest p zero n h l e k = let z = rw no_digits at e in absurd (omega arith)
lowest p (suc m) n h l e k =
    let t = count_trailing_zeros 32 (suc m) in
    let s = subst (First (32 - p) p (suc m)) (sym (same_place (32 - p) 32 (suc m) (omega arith) (omega arith) l)) (first (32 - p) p (suc m) (omega arith) l) in
    let d : 32 - (p + t + 1) ≡ 32 - p - suc t = omega (arith, s.0) in
    (omega (arith, s.0), rw d s.1, rw d s.2)
