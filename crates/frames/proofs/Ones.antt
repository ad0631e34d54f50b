-- The ones of a mask's preserved bits count the registers that it saves. Assumes nothing.
use mathlib.Core.Path.{◌≡◌, refl, sym, ap, ◌∙◌}
use mathlib.Core.Bool.{Bool, true, false, cond}
use mathlib.Core.List.{List, [], ◌∷◌, ◌++◌}
use Prim.Native.Nat.{ℕ, zero, suc, ◌+◌, ◌*◌, ◌/◌, ◌%◌, ◌^◌, ◌<◌}
use native.Mathlib.Nat.{mod-one, div-div-eq-div-mul, pow-suc}
use native.Mathlib.Omega.{arith}
use native.Mathlib.Numerals.{add-one}
use lib.Count.{ones, ones_step}
use lib.Pow.{mod-pow-add}
use lib.Dec.{eqb}
use lib.ListN.{length, length-append}
use Rattle.ast.specs.Mask.{in_mask, chosen, saved}
use Rattle.frame_code.proofs.Rows.{from}

chosen_append : (p : ℕ → Bool) (rs ts : List ℕ) → chosen p (rs ++ ts) ≡ chosen p rs ++ chosen p ts
chosen_append p [] ts = refl
chosen_append p (r ∷ rs) ts = by (p r) (chosen_append p rs ts)
  where
    by : (b : Bool) → chosen p (rs ++ ts) ≡ chosen p rs ++ chosen p ts → cond b (r ∷ chosen p (rs ++ ts)) (chosen p (rs ++ ts)) ≡ cond b (r ∷ chosen p rs) (chosen p rs) ++ chosen p ts
    by true e = ap (λ (l : List ℕ). r ∷ l) e
    by false e = e

-- one digit more
counted : (b : ℕ) → b < 2 → (r n : ℕ) (rs : List ℕ) → n ≡ length rs → b + n ≡ length (cond (eqb b 1) (r ∷ rs) rs)
counted zero h r n rs e = omega (arith, e)
counted (suc zero) h r n rs e = omega (arith, e)
counted (suc (suc b)) h r n rs e = absurd (omega arith)

half_way : (y n : ℕ) → (y % 2 ^ suc n % 2 ≡ y % 2) × (y % 2 ^ suc n / 2 ≡ y / 2 % 2 ^ n)
half_way y n =
    let e : y % 2 ^ suc n ≡ (y / 2 % 2 ^ n) * 2 + y % 2 = ap (λ (k : ℕ). y % 2 ^ k) (sym (add-one n)) ∙ mod-pow-add y n 1 in
    parts (y % 2 ^ suc n) (y / 2 % 2 ^ n) (y % 2) e (omega arith)
  where
    parts : (x q b : ℕ) → x ≡ q * 2 + b → b < 2 → (x % 2 ≡ b) × (x / 2 ≡ q)
    parts x q b e h = (omega arith, omega arith)

two_below : (m a : ℕ) → m / 2 ^ a / 2 ≡ m / 2 ^ suc a
two_below m a = div-div-eq-div-mul m (2 ^ a) 2 ∙ ap (λ (k : ℕ). m / k) (sym (pow-suc 2 a))

-- n digits from a on
ones_in : (mask n a : ℕ) → ones (mask / 2 ^ a % 2 ^ n) ≡ length (chosen (in_mask mask) (from a n))
unfolding ones
ones_in mask zero a = ap ones (mod-one (mask / 2 ^ a))
ones_in mask (suc n) a =
    let y = mask / 2 ^ a in
    let h = half_way y n in
    let d : y / 2 ≡ mask / 2 ^ suc a = two_below mask a in
    let ih : ones (y % 2 ^ suc n / 2) ≡ length (chosen (in_mask mask) (from (suc a) n)) = ap ones (h.1 ∙ ap (λ (k : ℕ). k % 2 ^ n) d) ∙ ones_in mask n (suc a) in
    ones_step (y % 2 ^ suc n) ∙ ap (λ (b : ℕ). b + ones (y % 2 ^ suc n / 2)) h.0 ∙ counted (y % 2) (omega arith) a _ _ ih

pub ones_saved : (mask : ℕ) → ones (mask / 256 % 4) + ones (mask / 262144 % 1024) ≡ length (saved mask)
unfolding saved
ones_saved mask =
    let a : ones (mask / 256 % 4) ≡ length (chosen (in_mask mask) (from 8 2)) = ones_in mask 2 8 in
    let b : ones (mask / 262144 % 1024) ≡ length (chosen (in_mask mask) (from 18 10)) = ones_in mask 10 18 in
    rw (a, b) (sym (ap length (chosen_append (in_mask mask) (from 8 2) (from 18 10)) ∙ length-append (chosen (in_mask mask) (from 8 2)) (chosen (in_mask mask) (from 18 10))))
