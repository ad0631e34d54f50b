-- Tests and what they say. Assumes nothing.
use mathlib.Core.Path.{ap, ◌≡◌, refl, sym}
use mathlib.Core.Bool.{Bool, true, false, ◌&&◌, ◌||◌, or-true}
use mathlib.Core.List.{List, [], ◌∷◌}
use Prim.Native.Nat.{ℕ, ◌≤◌}
use native.Mathlib.Omega.{arith}
use borrow.Author.Tests.{eqb-true, eqb-false}
use lib.Dec.{eqb}
use lib.Ieee.{Float, nan, inf, fin, is_nan}
use lib.ListN.{get_or}
use Rattle.refusal.specs.declared.Refusal.{Refusal}
use Rattle.refusal.specs.Number.{number_of}
use Rattle.assembler.specs.Label.{is_set}
use Rattle.assembler.specs.Put.{twice}
use Rattle.std.specs.List.{list_any, list_all}
use Rattle.base.specs.Tests.{all, member}

pub no : {A : Type 0} → false ≡ true → A
no e = let z : ◌≡◌ {A = ℕ} 0 1 = cc in absurd (omega arith)

-- every refusal has a number
pub number_some : (r : Refusal) → 1 ≤ number_of r
number_some Refusal.Register = omega arith
number_some Refusal.Value = omega arith
number_some Refusal.Label = omega arith
number_some Refusal.Twice = omega arith
number_some Refusal.Unset = omega arith
number_some Refusal.Far = omega arith
number_some Refusal.Full = omega arith
number_some Refusal.Closed = omega arith
number_some Refusal.Count = omega arith
number_some Refusal.Base = omega arith
number_some Refusal.Unsaved = omega arith
number_some Refusal.Line = omega arith

-- ---- labels set, or named twice

member_any : (l : ℕ) (ls : List ℕ) → list_any (λ k. eqb k l) ls ≡ member l ls
member_any l [] = refl
member_any l (k ∷ ls) = by (eqb k l) (eqb l k) refl refl (member_any l ls)
  where
    by : (t u : Bool) → eqb k l ≡ t → eqb l k ≡ u → list_any (λ k. eqb k l) ls ≡ member l ls → (eqb k l || list_any (λ k. eqb k l) ls) ≡ (eqb l k || member l ls)
    by true true p q e = rw (p, q)
    by true false p q e = absurd (eqb-false l k q (sym (eqb-true k l p)))
    by false true p q e = absurd (eqb-false k l p (sym (eqb-true l k q)))
    by false false p q e = rw (p, q) e

module _ (m rest : List ℕ) (l : ℕ) (behind : List ℕ) (e : rest ≡ l ∷ behind) where
  pub twice_set : is_set (get_or m l 0) ≡ true → twice m rest ≡ true
  unfolding twice
  twice_set h = rw (e, h)

  pub twice_again : list_any (λ k. eqb k l) behind ≡ true → twice m rest ≡ true
  unfolding twice
  twice_again h = rw (e, ← member_any l behind, h) (or-true (is_set (get_or m l 0)))

  pub twice_next : is_set (get_or m l 0) ≡ false → list_any (λ k. eqb k l) behind ≡ false → twice m rest ≡ twice m behind
  unfolding twice
  twice_next h g = rw (e, h, ← member_any l behind, g)

-- `all` of a list of labels
pub list_all_is : (p : ℕ → Bool) (ls : List ℕ) → list_all p ls ≡ all p ls
list_all_is p [] = refl
list_all_is p (l ∷ ls) = ap (λ (b : Bool). p l && b) (list_all_is p ls)

-- ---- floats

pub nan_of : (x : Float) → is_nan x ≡ true → x ≡ nan
unfolding is_nan
nan_of nan e = refl
nan_of (inf s) e = no e
nan_of (fin s m d) e = no e
