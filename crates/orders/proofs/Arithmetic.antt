-- Orders that work on registers alone, operation by operation: valid instructions, how many, and that they do what is meant. Assumes nothing.
use mathlib.Core.Path.{◌≡◌, refl, ap}
use mathlib.Core.Bool.{Bool, true, false, ◌&&◌, cond}
use mathlib.Core.List.{List, [], ◌∷◌, map}
use Prim.Native.Nat.{ℕ, ◌≤◌, ◌<◌}
use native.Mathlib.Omega.{arith}
use borrow.Author.Tests.{eqb-true}
use lib.Dec.{T, eqb}
use lib.Bits.{bit_xor, xor_self}
use lib.ListN.{length}
use Rattle.isa.specs.Instr.{Instr, R, M, XOR, FSGNJ_D, FMV_X_D, FMV_D_X}
use Rattle.machine.specs.Word.{upd}
use Rattle.machine.specs.Floats.{Floats}
use Rattle.machine.specs.State.{State, Sound, setx}
use Rattle.machine.specs.Effect.{effect, apply}
use Rattle.machine.proofs.Exec.{execs}
use Rattle.machine.specs.Ends.{temporary}
use Rattle.machine.proofs.Straight.{straight}
use Rattle.machine.proofs.Placed.{Valids}
use Rattle.accesses.proofs.Then.{silent}
use Rattle.ast.specs.declared.Unary as U
use Rattle.ast.specs.declared.Unary.TheVariants.{Fmov, Recip, Round, Floor, Not}
use Rattle.ast.specs.declared.Scratched as S
use Rattle.ast.specs.declared.Scratched.TheVariants.{Sign, Frac}
use Rattle.ast.specs.declared.Binary as Bin
use Rattle.ast.specs.declared.Binary.TheVariants.{Minus, Times, Divide, Gt, Neq, And, Andnot, Or, Xor}
use Rattle.ast.specs.declared.Fused as Fu
use Rattle.ast.specs.declared.Fused.TheVariants.{MulAdd, MulSub, NegMulAdd, NegMulSub}
use Rattle.assembler.specs.Item.{instr}
use Rattle.reading.specs.Meaning.{on, unary, scratched, binary, fused}
use Rattle.orders.specs.Code.{unary_code, scratched_code, binary_code, fused_code}
use Rattle.orders.specs.Does.{At, Done}
use Rattle.orders.proofs.Bits.{negated, negated_inverted, sign_converted, own_sign, upd_self}
use Rattle.orders.proofs.Items.{straight_done}

-- ---- validity

pub unary_valid : (k : U.Unary) (d s : ℕ) → d < 32 → s < 32 → Valids (unary_code k d s)
unfolding unary_code
unary_valid Fmov d s hd hs = by (eqb d s)
  where
    by : (t : Bool) → Valids (cond t [] (R FSGNJ_D d s s ∷ []))
    by true = tt
    by false = omega arith
unary_valid Recip d s hd hs = omega arith
unary_valid Round d s hd hs = omega arith
unary_valid Floor d s hd hs = omega arith
unary_valid Not d s hd hs = omega arith

pub scratched_valid : (k : S.Scratched) (d s t : ℕ) → d < 32 → s < 32 → t < 32 → Valids (scratched_code k d s t)
unfolding scratched_code
scratched_valid Sign d s t hd hs ht = omega arith
scratched_valid Frac d s t hd hs ht = omega arith

pub binary_valid : (k : Bin.Binary) (d a b : ℕ) → d < 32 → a < 32 → b < 32 → Valids (binary_code k d a b)
unfolding binary_code
binary_valid Minus d a b hd ha hb = omega arith
binary_valid Times d a b hd ha hb = omega arith
binary_valid Divide d a b hd ha hb = omega arith
binary_valid Gt d a b hd ha hb = omega arith
binary_valid Neq d a b hd ha hb = omega arith
binary_valid And d a b hd ha hb = omega arith
binary_valid Andnot d a b hd ha hb = omega arith
binary_valid Or d a b hd ha hb = omega arith
binary_valid Xor d a b hd ha hb = by (eqb a b)
  where
    by : (t : Bool) → Valids (cond t (M FMV_D_X d 0 ∷ []) (M FMV_X_D 5 a ∷ M FMV_X_D 6 b ∷ R XOR 5 5 6 ∷ M FMV_D_X d 5 ∷ []))
    by true = omega arith
    by false = omega arith

pub fused_valid : (k : Fu.Fused) (d a b c : ℕ) → d < 32 → a < 32 → b < 32 → c < 32 → Valids (fused_code k d a b c)
fused_valid k d a b c hd ha hb hc = omega arith

-- ---- no more than 11 words

pub unary_length : (k : U.Unary) (d s : ℕ) → length (unary_code k d s) ≤ 11
unfolding unary_code
unary_length Fmov d s = by (eqb d s)
  where
    by : (t : Bool) → length (cond t [] (R FSGNJ_D d s s ∷ [])) ≤ 11
    by true = omega arith
    by false = omega arith
unary_length Recip d s = omega arith
unary_length Round d s = omega arith
unary_length Floor d s = omega arith
unary_length Not d s = omega arith

pub scratched_length : (k : S.Scratched) (d s t : ℕ) → length (scratched_code k d s t) ≤ 11
unfolding scratched_code
scratched_length Sign d s t = omega arith
scratched_length Frac d s t = omega arith

pub binary_length : (k : Bin.Binary) (d a b : ℕ) → length (binary_code k d a b) ≤ 11
unfolding binary_code
binary_length Minus d a b = omega arith
binary_length Times d a b = omega arith
binary_length Divide d a b = omega arith
binary_length Gt d a b = omega arith
binary_length Neq d a b = omega arith
binary_length And d a b = omega arith
binary_length Andnot d a b = omega arith
binary_length Or d a b = omega arith
binary_length Xor d a b = by (eqb a b)
  where
    by : (t : Bool) → length (cond t (M FMV_D_X d 0 ∷ []) (M FMV_X_D 5 a ∷ M FMV_X_D 6 b ∷ R XOR 5 5 6 ∷ M FMV_D_X d 5 ∷ [])) ≤ 11
    by true = omega arith
    by false = omega arith

-- ---- what they do

module _ (places : ℕ → ℕ) (start here : ℕ) (s : State) (Q : Floats) where
  -- instructions is: float registers f afterwards
  abbrev pub Sets : List Instr → (ℕ → ℕ) → Type 0
  Sets is f = At places start here (map instr is) s → Done places start Q here (map instr is) s f s.mem on

  sets : (is : List Instr) (f : ℕ → ℕ) → Valids is → T (silent Q is s && straight Q temporary is s) → (execs Q is s).f ≡ f → (execs Q is s).mem ≡ s.mem → Sets is f
  sets is f v h p q o = straight_done places start here s is o Q f s.mem v h p q

  pub unary_does : (k : U.Unary) (d a : ℕ) → d < 32 → a < 32 → Sound s → Sets (unary_code k d a) (unary Q s.rm k s.f d a)
  unfolding unary_code unary effect apply setx upd temporary
  unary_does Fmov d a hd ha o = by (eqb d a) refl
    where
      by : (t : Bool) → eqb d a ≡ t → Sets (cond t [] (R FSGNJ_D d a a ∷ [])) (upd s.f d (s.f a))
      by true e = sets [] _ tt tt (upd_self s.f d a e) refl
      by false e = sets (R FSGNJ_D d a a ∷ []) _ (omega arith) tt (rw (own_sign (s.f a) (o.f a))) refl
  unary_does Recip d a hd ha o = sets (unary_code Recip d a) _ (unary_valid Recip d a hd ha) tt (rw (Q.of_w_one 0 (omega arith))) refl
  unary_does Round d a hd ha o = sets (unary_code Round d a) _ (unary_valid Round d a hd ha) tt refl refl
  unary_does Floor d a hd ha o = sets (unary_code Floor d a) _ (unary_valid Floor d a hd ha) tt refl refl
  unary_does Not d a hd ha o = sets (unary_code Not d a) _ (unary_valid Not d a hd ha) tt refl refl

  pub scratched_does : (k : S.Scratched) (d a t : ℕ) → d < 32 → a < 32 → t < 32 → Sets (scratched_code k d a t) (scratched Q s.rm k s.f d a t)
  unfolding scratched_code scratched effect apply setx upd temporary
  scratched_does Sign d a t hd ha ht =
      let g : ℕ → ℕ = upd s.f t 0 in
      sets (scratched_code Sign d a t) _ (scratched_valid Sign d a t hd ha ht) tt (ap (upd g d) (sign_converted Q (Q.lt s.rm (g t) (g a)) (Q.lt s.rm (g a) (g t)))) refl
  scratched_does Frac d a t hd ha ht = sets (scratched_code Frac d a t) _ (scratched_valid Frac d a t hd ha ht) tt refl refl

  pub binary_does : (k : Bin.Binary) (d a b : ℕ) → d < 32 → a < 32 → b < 32 → Sets (binary_code k d a b) (upd s.f d (binary Q s.rm k (s.f a) (s.f b)))
  unfolding binary_code binary effect apply setx upd temporary
  binary_does Minus d a b hd ha hb = sets (binary_code Minus d a b) _ (binary_valid Minus d a b hd ha hb) tt refl refl
  binary_does Times d a b hd ha hb = sets (binary_code Times d a b) _ (binary_valid Times d a b hd ha hb) tt refl refl
  binary_does Divide d a b hd ha hb = sets (binary_code Divide d a b) _ (binary_valid Divide d a b hd ha hb) tt refl refl
  binary_does Gt d a b hd ha hb =
      sets (binary_code Gt d a b) _ (binary_valid Gt d a b hd ha hb) tt (ap (upd s.f d) (negated (Q.lt s.rm (s.f b) (s.f a)))) refl
  binary_does Neq d a b hd ha hb =
      sets (binary_code Neq d a b) _ (binary_valid Neq d a b hd ha hb) tt (ap (upd s.f d) (negated_inverted (Q.eq s.rm (s.f a) (s.f b)))) refl
  binary_does And d a b hd ha hb = sets (binary_code And d a b) _ (binary_valid And d a b hd ha hb) tt refl refl
  binary_does Andnot d a b hd ha hb = sets (binary_code Andnot d a b) _ (binary_valid Andnot d a b hd ha hb) tt refl refl
  binary_does Or d a b hd ha hb = sets (binary_code Or d a b) _ (binary_valid Or d a b hd ha hb) tt refl refl
  binary_does Xor d a b hd ha hb = by (eqb a b) refl
    where
      by : (t : Bool) → eqb a b ≡ t → Sets (cond t (M FMV_D_X d 0 ∷ []) (M FMV_X_D 5 a ∷ M FMV_X_D 6 b ∷ R XOR 5 5 6 ∷ M FMV_D_X d 5 ∷ [])) (upd s.f d (bit_xor (s.f a) (s.f b)))
      by true e =
          let q : bit_xor (s.f a) (s.f b) ≡ 0 = rw (eqb-true a b e) (xor_self (s.f b)) in
          sets (M FMV_D_X d 0 ∷ []) _ (omega arith) tt (rw q) refl
      by false e = sets (M FMV_X_D 5 a ∷ M FMV_X_D 6 b ∷ R XOR 5 5 6 ∷ M FMV_D_X d 5 ∷ []) _ (omega arith) tt refl refl

  pub fused_does : (k : Fu.Fused) (d a b c : ℕ) → d < 32 → a < 32 → b < 32 → c < 32 → Sets (fused_code k d a b c) (upd s.f d (fused Q s.rm k (s.f a) (s.f b) (s.f c)))
  unfolding fused effect apply setx upd temporary
  fused_does MulAdd d a b c hd ha hb hc = sets (fused_code MulAdd d a b c) _ (fused_valid MulAdd d a b c hd ha hb hc) tt refl refl
  fused_does MulSub d a b c hd ha hb hc = sets (fused_code MulSub d a b c) _ (fused_valid MulSub d a b c hd ha hb hc) tt refl refl
  fused_does NegMulAdd d a b c hd ha hb hc = sets (fused_code NegMulAdd d a b c) _ (fused_valid NegMulAdd d a b c hd ha hb hc) tt refl refl
  fused_does NegMulSub d a b c hd ha hb hc = sets (fused_code NegMulSub d a b c) _ (fused_valid NegMulSub d a b c hd ha hb hc) tt refl refl
