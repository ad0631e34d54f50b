-- What each order means (document 01, "mod.rs, orders"), without any word of code.
use Rattle.std.specs.Prelude.{Bool, true, false, not, cond, List, [], ◌∷◌, ℕ, zero, suc, ◌+◌, ◌-◌, ◌*◌, ◌/◌, ◌%◌, ◌^◌, eqb}
use Rattle.std.specs.Int.Bits.{bit_and, bit_or, bit_xor}
use Rattle.machine.specs.Word.{w64, upd}
use Rattle.machine.specs.Floats.{Floats, one, minus_one}
use Rattle.ast.specs.declared.Place.{Place}
use Rattle.ast.specs.declared.Place.TheVariants.{Stack}
use Rattle.ast.specs.declared.Unary as U
use Rattle.ast.specs.declared.Unary.TheVariants.{Fmov, Recip, Round, Floor, Not}
use Rattle.ast.specs.declared.Scratched as S
use Rattle.ast.specs.declared.Scratched.TheVariants.{Sign, Frac}
use Rattle.ast.specs.declared.Binary as B
use Rattle.ast.specs.declared.Binary.TheVariants.{Minus, Times, Divide, Gt, Neq, And, Andnot, Or, Xor}
use Rattle.ast.specs.declared.Fused as F
use Rattle.ast.specs.declared.Fused.TheVariants.{MulAdd, MulSub, NegMulAdd, NegMulSub}
use Rattle.ast.specs.declared.Order.{Order}
use Rattle.ast.specs.declared.Order.TheVariants.{Unary, Scratched, Binary, Fused, Ifelse, LoadConst, Load, Save, BranchIf, SetLabel}

-- Where a line goes on: behind it, or at a label.
pub data Exit : Type 0 where
  on : Exit
  to : (label : ℕ) → Exit

-- A cell that is written.
pub record Written : Type 0 where
  pub place : Place
  pub index : ℕ
  pub bits : ℕ

-- What an order leaves: the float registers, the cells it writes in turn, and where it goes on.
pub record Meaning : Type 0 where
  pub f : ℕ → ℕ
  pub cells : List Written
  pub exit : Exit

-- ---- 64 bits

abbrev pub all_ones : ℕ
all_ones = 2 ^ 64 - 1

-- all ones where it holds, else all zeros
abbrev pub mask : Bool → ℕ
mask b = cond b all_ones 0

abbrev pub inverted : ℕ → ℕ
inverted v = bit_xor v all_ones

-- bit by bit, n bits from the lowest: a's where c's is one, else b's
unfoldable pub choose : (n c a b : ℕ) → ℕ
choose zero c a b = 0
choose (suc n) c a b = choose n (c / 2) (a / 2) (b / 2) * 2 + cond (eqb (c % 2) 1) (a % 2) (b % 2)

-- ---- floats; rm is the current rounding mode, and a result is 64 bits

-- the difference of two comparisons, 1, 0 or -1, as a float: zero is less than the operand, the operand is less than zero
abbrev pub sign_bits : Bool → Bool → ℕ
sign_bits true true = 0
sign_bits true false = one
sign_bits false true = minus_one
sign_bits false false = 0

module _ (Q : Floats) (rm : ℕ) where
  -- to a signed 64-bit whole number in the mode m, and back in the current mode
  abbrev pub whole : (m v : ℕ) → ℕ
  whole m v = w64 (Q.of_l rm (w64 (Q.to_l m v)))

  unfoldable pub unary : U.Unary → (ℕ → ℕ) → (d s : ℕ) → ℕ → ℕ
  unary Fmov f d s = upd f d (f s)
  -- 1.0 into f10, then f10 by s
  unary Recip f d s = let g = upd f 10 one in upd g d (w64 (Q.div rm (g 10) (g s)))
  unary Round f d s = upd f d (whole 0 (f s))
  unary Floor f d s = upd f d (whole 2 (f s))
  unary Not f d s = upd f d (inverted (f s))

  -- t is the scratch register
  unfoldable pub scratched : S.Scratched → (ℕ → ℕ) → (d s t : ℕ) → ℕ → ℕ
  scratched Sign f d s t = let g = upd f t 0 in upd g d (sign_bits (Q.lt rm (g t) (g s)) (Q.lt rm (g s) (g t)))
  scratched Frac f d s t = let g = upd f t (whole 2 (f s)) in upd g d (w64 (Q.sub rm (g s) (g t)))

  unfoldable pub binary : B.Binary → (u v : ℕ) → ℕ
  binary Minus u v = w64 (Q.sub rm u v)
  binary Times u v = w64 (Q.mul rm u v)
  binary Divide u v = w64 (Q.div rm u v)
  binary Gt u v = mask (Q.lt rm v u)
  binary Neq u v = mask (not (Q.eq rm u v))
  binary And u v = bit_and u v
  binary Andnot u v = bit_and (inverted u) v
  binary Or u v = bit_or u v
  binary Xor u v = bit_xor u v

  -- u × v + w, u × v - w, w - u × v, -w - u × v
  unfoldable pub fused : F.Fused → (u v w : ℕ) → ℕ
  fused MulAdd u v w = w64 (Q.mul_add rm u v w)
  fused MulSub u v w = w64 (Q.mul_sub rm u v w)
  fused NegMulAdd u v w = w64 (Q.neg_mul_add rm u v w)
  fused NegMulSub u v w = w64 (Q.neg_mul_sub rm u v w)

-- raw bits: with is_else it jumps when they aren't zero, without when they are
abbrev pub jumps : (is-else : Bool) → ℕ → Bool
jumps e v = cond e (not (eqb v 0)) (eqb v 0)

-- only registers change
abbrev pub registers : (ℕ → ℕ) → Meaning
registers f = record { f = f; cells = []; exit = on }

-- The meaning of an order, from the float registers, the rounding mode, and readers of cells and of constants.
module _ (Q : Floats) (f : ℕ → ℕ) (rm : ℕ) (cell : Place → ℕ → ℕ) (const : ℕ → ℕ) where
  unfoldable pub meaning : Order → Meaning
  meaning (Unary k d s) = registers (unary Q rm k f d s)
  meaning (Scratched k d s t) = registers (scratched Q rm k f d s t)
  meaning (Binary k d a b) = registers (upd f d (binary Q rm k (f a) (f b)))
  meaning (Fused k d a b c) = registers (upd f d (fused Q rm k (f a) (f b) (f c)))
  meaning (Ifelse d a b i) = registers (upd f d (choose 64 (cell Stack i) (f a) (f b)))
  meaning (LoadConst d k) = registers (upd f d (const k))
  meaning (Load d p i) = registers (upd f d (cell p i))
  meaning (Save s p i) = record { f = f; cells = record { place = p; index = i; bits = f s } ∷ []; exit = on }
  meaning (BranchIf c l e) = record { f = f; cells = []; exit = cond (jumps e (f c)) (to l) on }
  meaning (SetLabel l) = registers f
