-- A test of every number below n, computed, says it of each.
use mathlib.Core.Path.{◌≡◌, refl}
use mathlib.Core.Bool.{Bool, true, false, ◌&&◌}
use Prim.Native.Nat.{ℕ, zero, suc, ◌<◌}
use native.Mathlib.Omega.{arith}
use borrow.Author.Tests.{eqb-true, eqb-false}
use lib.Dec.{eqb}
use Rattle.base.proofs.Bools.{both}

abbrev pub every : (ℕ → Bool) → ℕ → Bool
every p zero = true
every p (suc n) = p n && every p n

pub tested : (p : ℕ → Bool) (n k : ℕ) → every p n ≡ true → k < n → p k ≡ true
tested p zero k e h = absurd (omega arith)
tested p (suc n) k e h = by (both (p n) (every p n) e) (tested p n k) (eqb k n) refl
  where
    by : (p n ≡ true) × (every p n ≡ true) → (every p n ≡ true → k < n → p k ≡ true) → (t : Bool) → eqb k n ≡ t → p k ≡ true
    by g rest true q = rw (eqb-true k n q) g.0
    by g rest false q = let d = eqb-false k n q in rest g.1 (omega (arith, d))
