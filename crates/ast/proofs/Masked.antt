-- Tests of a mask, of registers and of their cells, by cases as the code makes them.
use mathlib.Core.Path.{◌≡◌, refl, sym, ap, ◌∙◌}
use mathlib.Core.Bool.{Bool, true, false, not, ◌&&◌, ◌||◌, cond}
use mathlib.Core.List.{List, [], ◌∷◌, ◌++◌, map}
use Prim.Native.Nat.{ℕ, zero, suc, ◌+◌, ◌-◌, ◌*◌, ◌/◌, ◌%◌, ◌^◌, ◌≤◌, ◌<◌}
use native.Mathlib.Nat.{div-div-eq-div-mul, div-add-mod, div-one, mul_assoc, mul-mod_right, mod-one, pow-zero, pow-succ', pow-le-pow_right, div-eq_of_lt}
use native.Mathlib.Omega.{arith}
use borrow.Author.Tests.{eqb-true, eqb-false, ne_eqb}
use lib.Dec.{eqb}
use lib.Pow.{pow-add}
use Rattle.base.specs.Tests.{any, member}
use Rattle.base.proofs.Bools.{true_not_false, and_true, and_false, or_false, neither}
use Rattle.base.proofs.Tested.{tested}
use Rattle.ast.specs.declared.Place.TheVariants.{Stack}
use Rattle.ast.specs.Mask.{preserved, in_mask, chosen, saved, save_cell, saves, free, open_cell}

-- ---- i among k numbers from c on that pass a test of those from r on, or else the rest

abbrev spread : (p : ℕ → Bool) → (i c r k : ℕ) → Bool → Bool
spread p i c r zero rest = rest
spread p i c r (suc k) rest = (eqb i c && p r) || spread p i (suc c) (suc r) k rest

module _ (p : ℕ → Bool) (i : ℕ) where
  less : (c r k : ℕ) (rest : Bool) → i < c → spread p i c r k rest ≡ rest
  less c r zero rest h = refl
  less c r (suc k) rest h = rw (ne_eqb i c (λ e. omega (arith, e, h))) (less (suc c) (suc r) k rest (omega arith))

  more : (c r k : ℕ) (rest : Bool) → c + k ≤ i → spread p i c r k rest ≡ rest
  more c r zero rest h = refl
  more c r (suc k) rest h = rw (ne_eqb i c (λ e. omega (arith, e, h))) (more (suc c) (suc r) k rest (omega arith))

  within : (c r k : ℕ) (rest : Bool) → c ≤ i → i < c + k → rest ≡ false → spread p i c r k rest ≡ p (r + (i - c))
  within c r zero rest h g e = absurd (omega arith)
  within c r (suc k) rest h g e = by (eqb i c) refl (λ n. within (suc c) (suc r) k rest n (omega arith) e)
    where
      by : (t : Bool) → eqb i c ≡ t → (suc c ≤ i → spread p i (suc c) (suc r) k rest ≡ p (suc r + (i - suc c))) → (t && p r) || spread p i (suc c) (suc r) k rest ≡ p (r + (i - c))
      by true q f =
          let z : r + (i - c) ≡ r = omega (arith, eqb-true i c q) in
          rw (less (suc c) (suc r) k rest (omega (arith, eqb-true i c q)), e, z) (or_false (p r))
      by false q f =
          let z : suc r + (i - suc c) ≡ r + (i - c) = omega (arith, h, eqb-false i c q) in
          f (omega (arith, h, eqb-false i c q)) ∙ ap p z

-- ---- a register

-- a bit for each register that isn't preserved
abbrev others : ℕ → Bool
others r = eqb (4026793215 / 2 ^ r % 2) (cond (member r preserved) 0 1)

module _ (mask r : ℕ) where
  pub free_bits : r < 32 → not (eqb (mask / 2 ^ r % 2 + 4026793215 / 2 ^ r % 2) 0) ≡ free mask r
  free_bits h = rw (eqb-true (4026793215 / 2 ^ r % 2) (cond (member r preserved) 0 1) (tested others 32 r refl h)) (by (member r preserved) (mask / 2 ^ r % 2) (omega arith))
    where
      by : (t : Bool) (b : ℕ) → b < 2 → not (eqb (b + cond t 0 1) 0) ≡ not t || eqb b 1
      by true zero k = refl
      by true (suc zero) k = refl
      by true (suc (suc b)) k = absurd (omega arith)
      by false b k = rw (ne_eqb (b + 1) 0 (λ e. omega (arith, e)))

-- ---- a cell

-- a cell of a register that passes the test
abbrev held : (p : ℕ → Bool) → ℕ → List ℕ → Bool
held p i [] = false
held p i (r ∷ rs) = (eqb i (save_cell r) && p r) || held p i rs

held_chosen : (p : ℕ → Bool) (i : ℕ) (rs : List ℕ) → member i (map save_cell (chosen p rs)) ≡ held p i rs
held_chosen p i [] = refl
held_chosen p i (r ∷ rs) = by (p r) refl (held_chosen p i rs)
  where
    by : (t : Bool) → p r ≡ t → member i (map save_cell (chosen p rs)) ≡ held p i rs → member i (map save_cell (cond t (r ∷ chosen p rs) (chosen p rs))) ≡ (eqb i (save_cell r) && t) || held p i rs
    by true e h = rw (h, ← and_true)
    by false e h = rw and_false h

module _ (mask i : ℕ) where
  cells : member i (map save_cell (saved mask)) ≡ spread (in_mask mask) i 4 8 2 (spread (in_mask mask) i 6 18 10 false)
  unfolding saved
  cells = held_chosen (in_mask mask) i preserved

  pub open_below : i < 4 → true ≡ open_cell mask Stack i
  open_below h = rw (cells, less (in_mask mask) i 4 8 2 _ h, less (in_mask mask) i 6 18 10 false (omega arith))

  pub open_above : 15 < i → true ≡ open_cell mask Stack i
  open_above h = rw (cells, more (in_mask mask) i 4 8 2 _ (omega arith), more (in_mask mask) i 6 18 10 false h)

  pub open_low : 4 ≤ i → i ≤ 5 → not (in_mask mask (i + 4)) ≡ open_cell mask Stack i
  open_low h g =
      let z : 8 + (i - 4) ≡ i + 4 = omega arith in
      rw (cells, within (in_mask mask) i 4 8 2 _ h (omega arith) (less (in_mask mask) i 6 18 10 false (omega arith)), z)

  pub open_high : 6 ≤ i → i ≤ 15 → not (in_mask mask (i + 12)) ≡ open_cell mask Stack i
  open_high h g =
      let z : 18 + (i - 6) ≡ i + 12 = omega arith in
      rw (cells, more (in_mask mask) i 4 8 2 _ h, within (in_mask mask) i 6 18 10 false h (omega arith) refl, z)

-- ---- a mask that saves

-- k numbers from lo on
abbrev run : (lo k : ℕ) → List ℕ
run lo zero = []
run lo (suc k) = lo ∷ run (lo + 1) k

module _ (p : ℕ → Bool) where
  either_run : (rs ts : List ℕ) → any p (rs ++ ts) ≡ false → (any p rs ≡ false) × (any p ts ≡ false)
  either_run [] ts e = (refl, e)
  either_run (r ∷ rs) ts e =
      let h = neither (p r) (any p (rs ++ ts)) e in
      let g = either_run rs ts h.1 in
      (rw (h.0, g.0), g.1)

  run_off : (lo k : ℕ) → any p (run lo k) ≡ false → (i : ℕ) → i < k → p (lo + i) ≡ false
  run_off lo zero e i h = absurd (omega arith)
  run_off lo (suc k) e zero h = let z : lo + 0 ≡ lo = omega arith in rw z (neither (p lo) (any p (run (lo + 1) k)) e).0
  run_off lo (suc k) e (suc i) h =
      let z : lo + suc i ≡ lo + 1 + i = omega arith in
      rw z (run_off (lo + 1) k (neither (p lo) (any p (run (lo + 1) k)) e).1 i (omega arith))

half : (x n : ℕ) → (x % 2 ≡ 1 → ⊥) → x / 2 % n ≡ 0 → x % (2 * n) ≡ 0
half x n h g =
    let q = x / 2 / n in
    let z : x % 2 ≡ 0 = omega (arith, h) in
    let e : x ≡ 2 * (n * q) = omega (arith, div-add-mod (x / 2) n) in
    ap (λ (y : ℕ). y % (2 * n)) (e ∙ sym (mul_assoc 2 n q)) ∙ mul-mod_right (2 * n) q

-- where k bits are zero, so is their number
zero_bits : (k x : ℕ) → ((i : ℕ) → i < k → x / 2 ^ i % 2 ≡ 1 → ⊥) → x % 2 ^ k ≡ 0
zero_bits zero x f = rw (pow-zero 2) (mod-one x)
zero_bits (suc k) x f =
    rw (pow-succ' 2 k) (half x (2 ^ k) (λ e. f 0 (omega arith) (ap (λ (y : ℕ). y % 2) (rw (pow-zero 2) (div-one x)) ∙ e)) (zero_bits k (x / 2) (λ i h e. f (suc i) (omega arith) (rw (pow-succ' 2 i, ← div-div-eq-div-mul x 2 (2 ^ i)) e))))

part_off : (m lo k : ℕ) → any (in_mask m) (run lo k) ≡ false → m / 2 ^ lo % 2 ^ k ≡ 0
part_off m lo k e =
    zero_bits k (m / 2 ^ lo) (λ i h g. eqb-false (m / 2 ^ (lo + i) % 2) 1 (run_off (in_mask m) lo k e i h) (rw (pow-add 2 lo i, ← div-div-eq-div-mul m (2 ^ lo) (2 ^ i)) g))

module _ (m : ℕ) where
  has_none : m / 256 % 4 ≡ 0 → m / 262144 % 1024 ≡ 0 → saves m ≡ false
  unfolding saves
  has_none a b =
      let off : (k : ℕ) → m / k % 2 ≡ 0 → eqb (m / k % 2) 1 ≡ false = λ k h. ne_eqb (m / k % 2) 1 (λ e. let z : 0 ≡ 1 = sym h ∙ e in omega arith) in
      rw (off 256 (omega arith), off 512 (omega arith)) (rw (off 262144 (omega arith), off 524288 (omega arith), off 1048576 (omega arith), off 2097152 (omega arith), off 4194304 (omega arith)) (rw (off 8388608 (omega arith), off 16777216 (omega arith), off 33554432 (omega arith), off 67108864 (omega arith), off 134217728 (omega arith))))

  -- where no preserved bit is set, both parts are zero
  parts : saves m ≡ false → (m / 256 % 4 ≡ 0) × (m / 262144 % 1024 ≡ 0)
  unfolding saves
  parts e =
      let r = either_run (in_mask m) (run 8 2) (run 18 10) e in
      (part_off m 8 2 r.0, part_off m 18 10 r.1)

  some_set : ((saves m ≡ false) → ⊥) → true ≡ saves m
  some_set h = go (saves m) refl
    where
      go : (t : Bool) → saves m ≡ t → true ≡ saves m
      go true e = sym e
      go false e = absurd (h e)

  pub low_set : (m / 256 % 4 ≡ 0 → ⊥) → true ≡ saves m
  low_set h = some_set (λ e. h (parts e).0)

  pub high_set : m / 256 % 4 ≡ 0 → not (eqb (m / 262144 % 1024) 0) ≡ saves m
  high_set a = go (eqb (m / 262144 % 1024) 0) refl
    where
      go : (t : Bool) → eqb (m / 262144 % 1024) 0 ≡ t → not t ≡ saves m
      go true e = sym (has_none a (eqb-true (m / 262144 % 1024) 0 e))
      go false e = some_set (λ g. eqb-false (m / 262144 % 1024) 0 e (parts g).1)

-- a register that the mask has no bit for
pub no_bit : (mask r : ℕ) → mask < 2 ^ 32 → 32 ≤ r → false ≡ in_mask mask r
no_bit mask r h g =
    let p : 2 ^ 32 ≤ 2 ^ r = pow-le-pow_right (omega arith) g in
    let q : mask < 2 ^ r = omega (arith, p, h) in
    rw (div-eq_of_lt q)

-- ---- a mask that saves nothing

none_chosen : (t : ℕ → Bool) (rs : List ℕ) → any t rs ≡ false → chosen t rs ≡ []
none_chosen t [] e = refl
none_chosen t (r ∷ rs) e = by (t r) e (none_chosen t rs)
  where
    by : (b : Bool) → b || any t rs ≡ false → (any t rs ≡ false → chosen t rs ≡ []) → cond b (r ∷ chosen t rs) (chosen t rs) ≡ []
    by true e f = absurd (true_not_false (sym e))
    by false e f = f e

pub none_saved : (mask : ℕ) → saves mask ≡ false → saved mask ≡ []
unfolding saves saved
none_saved mask e = none_chosen (in_mask mask) preserved e
