-- What an accepted answer tells of the answers it was made of; what is judged of an order's operand.
use mathlib.Core.Path.{◌≡◌, refl}
use mathlib.Core.Bool.{Bool, true, false, cond}
use Prim.Native.Nat.{ℕ, zero, suc}
use native.Mathlib.Omega.{arith}
use lib.Dec.{ltb, leb}
use Rattle.refusal.specs.Answer.{Answer, accepted, refused}
use Rattle.refusal.specs.declared.Refusal.TheVariants.{Label, Count}
use Rattle.ast.specs.declared.Operand.{Operand}
use Rattle.ast.specs.declared.Operand.TheVariants.{Nothing, Loaded, Stored, Constant, GoneTo, Set}
use Rattle.deck.specs.Judge.{Content, demand, operand_judged}
use Rattle.routine.specs.Routine.{then, unless, placed_at}

module _ {A : Type 0} where
  pub same : (a b : A) → accepted a ≡ accepted b → a ≡ b
  same a b e = cc

  pub unless_accepts : (n line : ℕ) (a b : A) → unless n line a ≡ accepted b → (n ≡ 0) × (a ≡ b)
  unless_accepts zero line a b e = (refl, cc)
  unless_accepts (suc n) line a b e = let z : ◌≡◌ {A = ℕ} 0 1 = cc in absurd (omega arith)

  pub placed_accepts : (line : ℕ) (a : Answer A) (b : A) → placed_at line a ≡ accepted b → a ≡ accepted b
  placed_accepts line (accepted a) b e = e
  placed_accepts line (refused n place) b e = let z : ◌≡◌ {A = ℕ} 0 1 = cc in absurd (omega arith)

  pub cond_accepts : (t : Bool) (n line : ℕ) (a : Answer A) (b : A) → cond t a (refused n line) ≡ accepted b → (t ≡ true) × (a ≡ accepted b)
  cond_accepts true n line a b e = (refl, e)
  cond_accepts false n line a b e = let z : ◌≡◌ {A = ℕ} 0 1 = cc in absurd (omega arith)

pub then_accepts : {A B : Type 0} (a : Answer A) (f : A → Answer B) (b : B) → then a f ≡ accepted b → (x : A) × (a ≡ accepted x) × (f x ≡ accepted b)
then_accepts (accepted a) f b e = (a, refl, e)
then_accepts (refused n place) f b e = let z : ◌≡◌ {A = ℕ} 0 1 = cc in absurd (omega arith)

-- nothing is demanded of it, or one thing, by 9 or by 3
module _ (P : Answer Content → Type 0) (a : Answer Content) (none : P a) (count : (t : Bool) → P (demand t Count a)) (label : (t : Bool) → P (demand t Label a)) where
  pub operand_cases : (x : Operand) → P (operand_judged x a)
  operand_cases Nothing = none
  operand_cases (Loaded p i) = count (ltb i 4096)
  operand_cases (Stored p i) = count (ltb i 4096)
  operand_cases (Constant k) = count (ltb k 1008)
  operand_cases (GoneTo l) = label (leb l 1023)
  operand_cases (Set l) = label (leb l 1023)
