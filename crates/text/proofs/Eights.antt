-- The first byte c among eight, and among sixteen.
use mathlib.Core.Path.{◌≡◌, refl, sym, ◌∙◌}
use mathlib.Core.Bool.{Bool, true, false, cond}
use mathlib.Core.List.{List}
use Prim.Native.Nat.{ℕ, zero, suc, ◌+◌, ◌*◌, ◌/◌, ◌%◌, ◌^◌, ◌≤◌, ◌<◌}
use native.Mathlib.Nat.{mul-one, add-zero, zero-add, suc-add}
use native.Mathlib.Omega.{arith}
use borrow.Author.Tests.{eqb-true, eqb-false}
use lib.Bits.{bit_or, and_le_l, and_le_r, or_add_and, or_zero_l, shifted_half, shifted_even}
use lib.Count.{count_trailing_zeros}
use lib.Dec.{eqb}
use lib.ListN.{length, get_or}
use Rattle.text.specs.Inner.Parts.{bytes_are, marks}

shifted : (j k n : ℕ) → count_trailing_zeros (j + k) (n * 2 ^ j) ≡ j + count_trailing_zeros k n
unfolding count_trailing_zeros
shifted zero k n = rw (zero-add k, mul-one n, zero-add (count_trailing_zeros k n))
shifted (suc j) k n = rw (suc-add j k, shifted_even n j, shifted_half n j, shifted j k n, suc-add)

ten_first : (k n : ℕ) → count_trailing_zeros (8 + k) (n * 256 + 128) ≡ 7
unfolding count_trailing_zeros
ten_first k n =
    let e : n * 256 + 128 ≡ (n * 2 + 1) * 2 ^ 7 = omega arith in
    let o : (n * 2 + 1) % 2 ≡ 1 = omega arith in
    let s : 8 + k ≡ 7 + suc k = omega arith in
    rw (e, s, shifted 7 (suc k) (n * 2 + 1), o)

-- z marks those of k bytes that are c. `P i r`: a search from i on ends at r. With none it goes on behind them, else it ends at the first, or d behind it.
abbrev pub Found : (ℕ → ℕ → Type 0) → (d i k z : ℕ) → Type 0
Found P d i k z = (z ≡ 0 → (r : ℕ) → P (i + k) r → P i r) × ((z ≡ 0 → ⊥) → P i (i + count_trailing_zeros (k * 8) z / 8 + d))

module _ (f : List ℕ) (c d : ℕ) (P : ℕ → ℕ → Type 0) (stops : (i : ℕ) → i < length f → get_or f i 0 ≡ c → P i (i + d)) (passes : (i r : ℕ) → i < length f → (get_or f i 0 ≡ c → ⊥) → P (i + 1) r → P i r) where
  module _ (k i w : ℕ) (h : i < length f) where
    s : suc k * 8 ≡ 8 + k * 8
    s = omega arith

    here : get_or f i 0 ≡ c → Found P d i (suc k) (w * 256 + 128)
    here e =
        let z : i + 7 / 8 + d ≡ i + d = omega arith in
        (λ n. absurd (omega arith), λ n. rw (s, ten_first (k * 8) w, z) (stops i h e))

    later : (get_or f i 0 ≡ c → ⊥) → Found P d (i + 1) k w → Found P d i (suc k) (w * 256 + 0)
    later e v =
        let t = count_trailing_zeros (k * 8) w in
        let a : i + 1 + k ≡ i + suc k = omega arith in
        let j : i + (8 + t) / 8 + d ≡ i + 1 + t / 8 + d = omega arith in
        let z : count_trailing_zeros (suc k * 8) (w * 256 + 0) ≡ 8 + t = rw (s, add-zero (w * 256)) (shifted 8 (k * 8) w) in (
          λ n r g. passes i r h e (v.0 (omega arith) r (rw a g)),
          λ n. rw (z, j) (passes i _ h e (v.1 (λ g. n (omega arith)))),
        )

  found : (k i x : ℕ) → i + k ≤ length f → bytes_are f i k x → Found P d i k (marks c k x)
  unfolding marks
  found zero i x h b = (λ e r g. rw add-zero at g, λ n. absurd (n refl))
  found (suc k) i x h b = by (eqb (x % 256) c) refl (found k (i + 1) (x / 256) (omega arith) b.1)
    where
      by : (t : Bool) → eqb (x % 256) c ≡ t → Found P d (i + 1) k (marks c k (x / 256)) → Found P d i (suc k) (marks c k (x / 256) * 256 + cond t 128 0)
      by true q v = here k i (marks c k (x / 256)) (omega arith) (sym b.0 ∙ eqb-true _ _ q)
      by false q v = later k i (marks c k (x / 256)) (omega arith) (λ e. eqb-false _ _ q (b.0 ∙ e)) v

  pub found_eight : (i x : ℕ) → i + 8 ≤ length f → bytes_are f i 8 x → Found P d i 8 (marks c 8 x)
  found_eight i x h b = found 8 i x h b

-- the same of two eights, y in front of z
abbrev pub FoundTwo : (ℕ → ℕ → Type 0) → (d i y z : ℕ) → Type 0
FoundTwo P d i y z = (bit_or y z ≡ 0 → (r : ℕ) → P (i + 16) r → P i r) × ((bit_or y z ≡ 0 → ⊥) → P i (i + cond (eqb y 0) (8 + count_trailing_zeros 64 z / 8) (count_trailing_zeros 64 y / 8) + d))

pub found_two : (P : ℕ → ℕ → Type 0) (d i y z : ℕ) → Found P d i 8 y → Found P d (i + 8) 8 z → FoundTwo P d i y z
found_two P d i y z u v =
    let a : i + 8 + 8 ≡ i + 16 = omega arith in (
      λ e r g. u.0 (omega (arith, e, or_add_and y z, and_le_l y z, and_le_r y z)) r (v.0 (omega (arith, e, or_add_and y z, and_le_l y z, and_le_r y z)) r (rw a g)),
      λ n. by (eqb y 0) refl n,
    )
  where
    by : (t : Bool) → eqb y 0 ≡ t → (bit_or y z ≡ 0 → ⊥) → P i (i + cond t (8 + count_trailing_zeros 64 z / 8) (count_trailing_zeros 64 y / 8) + d)
    by true q n =
        let e : y ≡ 0 = eqb-true y 0 q in
        let j : i + (8 + count_trailing_zeros 64 z / 8) + d ≡ i + 8 + count_trailing_zeros 64 z / 8 + d = omega arith in
        rw j (u.0 e _ (v.1 (λ w. n (rw (e, w) (or_zero_l 0)))))
    by false q n = u.1 (eqb-false y 0 q)
