-- The first number that passes a test. Assumes nothing.
use mathlib.Core.Path.{◌≡◌, refl, sym, ap}
use mathlib.Core.Bool.{Bool, true, false, cond}
use Prim.Native.Nat.{ℕ, zero, suc, ◌+◌, ◌-◌, ◌≤◌, ◌<◌}
use native.Mathlib.Nat.{add-zero, zero-add}
use native.Mathlib.Omega.{arith}
use Rattle.std.proofs.Common.{Option, None, Some, is_some}
use Rattle.base.proofs.Bools.{true_not_false}
use Rattle.finish.specs.Finish.{first}
use Rattle.finish.specs.Inner.Finish.{IsFirst}

module _ (t : ℕ → Bool) (i n : ℕ) where
  pub first_here : i < n → t i ≡ true → first t i (n - i) ≡ 0
  unfolding first
  first_here h e =
      let d : n - i ≡ suc (n - (i + 1)) = omega arith in
      rw d (simp e)

  pub first_later : i < n → t i ≡ false → first t i (n - i) ≡ 1 + first t (i + 1) (n - (i + 1))
  unfolding first
  first_later h e =
      let d : n - i ≡ suc (n - (i + 1)) = omega arith in
      rw d (simp e)

  pub first_end : n ≤ i → first t i (n - i) ≡ 0
  unfolding first
  first_end h =
      let d : n - i ≡ 0 = omega arith in
      rw d

later : (b : Bool) (n f : ℕ) → suc n ≤ cond b 0 (1 + f) → (b ≡ false) × (n ≤ f)
later true n f h = absurd (omega arith)
later false n f h = (refl, omega arith)

-- where none is found none passes
pub none : (t : ℕ → Bool) (i n : ℕ) → n ≤ first t i n → (j : ℕ) → j < n → t (i + j) ≡ false
unfolding first
none t i zero h j q = absurd (omega arith)
none t i (suc n) h zero q = rw add-zero (later (t i) n _ h).0
none t i (suc n) h (suc j) q =
    let d : i + 1 + j ≡ i + suc j = omega arith in
    rw d at (none t (i + 1) n (later (t i) n _ h).1 j (omega arith))

-- where none of the first m passes, the rest is looked at
past : (t : ℕ → Bool) (i m k : ℕ) → m ≤ first t i m → first t i (m + k) ≡ m + first t (i + m) k
unfolding first
past t i zero k h = rw (zero-add, zero-add, add-zero)
past t i (suc m) k h =
    let l = later (t i) m _ h in
    let d : i + 1 + m ≡ i + suc m = omega arith in
    let e = rw d at (past t (i + 1) m k l.1) in
    let g : suc m + k ≡ suc (m + k) = omega arith in
    rw (g, l.0, e) (omega arith)

-- one of the first m passes: the rest doesn't count
within : (t : ℕ → Bool) (i m k : ℕ) → first t i m < m → first t i (m + k) ≡ first t i m
unfolding first
within t i zero k h = absurd (omega arith)
within t i (suc m) k h =
    let g : suc m + k ≡ suc (m + k) = omega arith in
    rw g (by (t i) (within t (i + 1) m k) h)
  where
    by : (b : Bool) → (first t (i + 1) m < m → first t (i + 1) (m + k) ≡ first t (i + 1) m) → cond b 0 (1 + first t (i + 1) m) < suc m → cond b 0 (1 + first t (i + 1) (m + k)) ≡ cond b 0 (1 + first t (i + 1) m)
    by true ih q = refl
    by false ih q = ap (λ (x : ℕ). 1 + x) (ih (omega arith))

-- the same for the numbers from i to m, then to n
module _ (t : ℕ → Bool) (i m n : ℕ) (h : i ≤ m) (g : m ≤ n) where
  pub first_past : m ≤ i + first t i (m - i) → i + first t i (n - i) ≡ m + first t m (n - m)
  first_past f =
      let d : m - i + (n - m) ≡ n - i = omega arith in
      let e : i + (m - i) ≡ m = omega arith in
      let p = rw (d, e) at (past t i (m - i) (n - m) (omega arith)) in
      omega (arith, p)

  pub first_within : i + first t i (m - i) < m → first t i (n - i) ≡ first t i (m - i)
  first_within f =
      let d : m - i + (n - m) ≡ n - i = omega arith in
      rw d at (within t i (m - i) (n - m) (omega arith))

-- whether one was found
pub found : (r : Option ℕ) (f n : ℕ) → IsFirst r f n → is_some r ≡ true → f < n
found None f n h e = absurd (true_not_false e)
found (Some i) f n h e = omega (arith, h.0, h.1)

pub missing : (r : Option ℕ) (f n : ℕ) → IsFirst r f n → is_some r ≡ false → n ≤ f
missing None f n h e = h
missing (Some i) f n h e = absurd (true_not_false (sym e))

-- none of k passes
pub first_none : (t : ℕ → Bool) (i k : ℕ) → ((j : ℕ) → j < k → t (i + j) ≡ false) → first t i k ≡ k
unfolding first
first_none t i zero h = refl
first_none t i (suc k) h =
    let e : t i ≡ false = rw add-zero at (h 0 (omega arith)) in
    let f = first_none t (i + 1) k (λ j q. let d : i + 1 + j ≡ i + suc j = omega arith in rw d (h (suc j) (omega arith))) in
    rw (e, f) (omega arith)
