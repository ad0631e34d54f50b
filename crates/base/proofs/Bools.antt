-- Laws of tests.
use mathlib.Core.Path.{◌≡◌, refl}
use mathlib.Core.Bool.{Bool, true, false, ◌&&◌, ◌||◌, cond}
use Prim.Native.Nat.{ℕ, suc}
use native.Mathlib.Omega.{arith}
use lib.Dec.{T}

pub true_not_false : ◌≡◌ {A = Bool} false true → ⊥
true_not_false e = let z : ◌≡◌ {A = ℕ} 0 1 = cc in omega arith

-- ---- a test that holds, as a type and as an equation

pub T_true : (t : Bool) → T t → t ≡ true
T_true true h = refl
T_true false h = absurd h

pub true_T : (t : Bool) → t ≡ true → T t
true_T true e = tt
true_T false e = absurd (true_not_false e)

-- ---- two tests

pub both : (t u : Bool) → (t && u) ≡ true → (t ≡ true) × (u ≡ true)
both true u e = (refl, e)
both false u e = absurd (true_not_false e)

pub join : (t u : Bool) → t ≡ true → u ≡ true → (t && u) ≡ true
join t u p q = rw (p, q)

pub and_l : (t u : Bool) → T (t && u) → T t
and_l true u h = tt
and_l false u h = h

pub and_r : (t u : Bool) → T (t && u) → T u
and_r true u h = h
and_r false u h = absurd h

pub neither : (t u : Bool) → t || u ≡ false → (t ≡ false) × (u ≡ false)
neither true u e = absurd (let z : ◌≡◌ {A = ℕ} 0 1 = cc in omega arith)
neither false u e = (refl, e)

pub and_true : (t : Bool) → t ≡ (t && true)
and_true true = refl
and_true false = refl

pub and_false : (t : Bool) → (t && false) ≡ false
and_false true = refl
and_false false = refl

pub or_false : (t : Bool) → t || false ≡ t
or_false true = refl
or_false false = refl

-- ---- a refusal's number

-- a test passed in a row of them
pub passed : (t : Bool) (u k : ℕ) → cond t u (suc k) ≡ 0 → T t × (u ≡ 0)
passed true u k e = (tt, e)
passed false u k e = absurd (omega arith)
