-- Texts stored one behind the other.
use mathlib.Core.Path.{◌≡◌, refl, sym, ap, ◌∙◌}
use mathlib.Core.List.{List, [], ◌∷◌, ◌++◌}
use Prim.Native.Nat.{ℕ, zero, suc, ◌+◌, ◌-◌, ◌/◌, ◌%◌, ◌^◌, ◌<◌, ◌≤◌}
use native.Mathlib.Nat.{add-zero}
use native.Mathlib.Omega.{arith}
use borrow.Rule.Slice.PartMut.{put_mid}
use lib.ListN.{length, set, take, drop}
use Rattle.std.proofs.Common.{append_assoc}
use lib.Seq.{sets, set_comm, sets-eq, drop-drop}
use Rattle.text.specs.Digits.{digit_byte, digits}
use Rattle.print.proofs.Counts.{shifted, whole}

-- a store in front of a run of stores may come first
pub set_before : (l : List ℕ) (p q a : ℕ) (vs : List ℕ) → p < q → set (sets l q vs) p a ≡ sets (set l p a) q vs
set_before l p q a [] h = refl
set_before l p q a (v ∷ vs) h =
    set_before (set l q v) p (suc q) a vs (omega arith)
    ∙ ap (λ (m : List ℕ). sets m (suc q) vs) (set_comm l q p v a (λ e. omega arith))

pub sets_append : (l : List ℕ) (at : ℕ) (xs ys : List ℕ) → sets l at (xs ++ ys) ≡ sets (sets l at xs) (at + length xs) ys
sets_append l at [] ys = rw add-zero
sets_append l at (x ∷ xs) ys =
    let e : suc at + length xs ≡ at + suc (length xs) = omega arith in
    sets_append (set l at x) (suc at) xs ys ∙ ap (λ (k : ℕ). sets (sets (set l at x) (suc at) xs) k ys) e

-- ---- digits from the lowest up: e is where those stored start, j is how many they are

pub no_digit : (l : List ℕ) (b n e : ℕ) → l ≡ sets l e (digits b 0 n)
unfolding digits
no_digit l b n e = refl

pub one_digit : (l : List ℕ) (b n e j d : ℕ) → d ≡ digit_byte (n / b ^ j % b) → set (sets l (suc e) (digits b j n)) e d ≡ sets l e (digits b (suc j) n)
unfolding digits
one_digit l b n e j d h =
    set_before l e (suc e) d (digits b j n) (omega arith) ∙ ap (λ (x : ℕ). sets (set l e x) (suc e) (digits b j n)) h

-- the loop's turn, of a text that ends at t
pub digit_step : (l out : List ℕ) (b n t e rest d : ℕ) → 0 < e → e ≤ t → rest ≡ n / b ^ (t - e) → out ≡ sets l e (digits b (t - e) n) → d ≡ digit_byte (rest % b)
    → (rest / b ≡ n / b ^ (t - (e - 1))) × (set out (e - 1) d ≡ sets l (e - 1) (digits b (t - (e - 1)) n))
digit_step l out b n t zero rest d p h r o g = absurd (omega arith)
digit_step l out b n t (suc e) rest d p h r o g =
    let x : t - e ≡ suc (t - suc e) = omega arith in
    let y : suc e - 1 ≡ e = omega arith in (
      rw (y, x, shifted b n (t - suc e)) (ap (λ (m : ℕ). m / b) r),
      rw (y, x) (ap (λ (m : List ℕ). set m e d) o ∙ one_digit l b n e (t - suc e) d (g ∙ ap (λ (m : ℕ). digit_byte (m % b)) r)),
    )

pub digit_none : (l : List ℕ) (b n t : ℕ) → (n ≡ n / b ^ (t - t)) × (l ≡ sets l t (digits b (t - t) n))
digit_none l b n t = let e : t - t ≡ 0 = omega arith in (rw e (whole b n), rw e (no_digit l b n t))

pub digit_all : (l out : List ℕ) (b n at k e : ℕ) → at ≤ e → e ≤ at → out ≡ sets l e (digits b (at + k - e) n) → out ≡ sets l at (digits b k n)
digit_all l out b n at k e g h o =
    let x : e ≡ at = omega arith in
    let y : at + k - at ≡ k = omega arith in
    o ∙ rw (x, y)

-- ---- a text at once

pub copied : (xs ys s : List ℕ) (a k : ℕ) → ys ≡ s → k ≡ length s → a + length s ≤ length xs → put_mid a k xs ys ≡ sets xs a s
copied xs ys s a k e f h =
    rw (e, f, drop-drop (length s) a xs) (sym (append_assoc (take a xs) s (drop (a + length s) xs)) ∙ sym (sets-eq s xs a h))
