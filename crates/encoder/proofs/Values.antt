-- An instruction as a value: an operation's number beyond its shape's last is the first. Assumes nothing.
use mathlib.Core.Path.{◌≡◌, refl, sym, ap, ◌∙◌}
use mathlib.Core.Bool.{Bool, true, false, cond}
use mathlib.Core.List.{List}
use Prim.Native.Nat.{ℕ}
use borrow.Author.Tests.{ltb-false}
use lib.Dec.{ltb}
use lib.ListN.{length, get_or, get_or-eq_default}
use lib.IntN.{ℤ}
use Rattle.isa.specs.Instr.{F, C, M, R4, I, Shift, S, B, U, FADD_D, FSQRT_D, FMV_X_D, FMADD_D, ADDI, SLLI, SD, BEQ, LUI}
use Rattle.isa.specs.Decode.{f_ops, c_ops, m_ops, r4_ops, i_ops, shift_ops, s_ops, b_ops, u_ops}
use Rattle.encoder.specs.Instr.{instr_of}
use Rattle.encoder.specs.declared.Instr as Declared
use Rattle.encoder.specs.declared.Instr.TheVariants as Code

module _ {K : Type 0} (l : List K) (k : K) (first : get_or l 0 k ≡ k) (op r : ℕ) (within : r ≡ cond (ltb op (length l)) op 0) where
  chosen : get_or l r k ≡ get_or l op k
  chosen = by (ltb op (length l)) refl within
    where
      by : (t : Bool) → ltb op (length l) ≡ t → r ≡ cond t op 0 → get_or l r k ≡ get_or l op k
      by true e w = ap (λ (n : ℕ). get_or l n k) w
      by false e w = ap (λ (n : ℕ). get_or l n k) w ∙ first ∙ sym (get_or-eq_default l k (ltb-false op (length l) e))

-- an instruction by its number within the shape
pub is_F : (i : Declared.Instr) (k r d a b m : ℕ) → i ≡ Code.F k d a b m → r ≡ cond (ltb k 4) k 0 → instr_of i ≡ F (get_or f_ops r FADD_D) d a b m
is_F i k r d a b m e w = ap instr_of e ∙ ap (λ o. F o d a b m) (sym (chosen f_ops FADD_D refl k r w))

pub is_C : (i : Declared.Instr) (k r d a m : ℕ) → i ≡ Code.C k d a m → r ≡ cond (ltb k 5) k 0 → instr_of i ≡ C (get_or c_ops r FSQRT_D) d a m
is_C i k r d a m e w = ap instr_of e ∙ ap (λ o. C o d a m) (sym (chosen c_ops FSQRT_D refl k r w))

pub is_M : (i : Declared.Instr) (k r d a : ℕ) → i ≡ Code.M k d a → r ≡ cond (ltb k 2) k 0 → instr_of i ≡ M (get_or m_ops r FMV_X_D) d a
is_M i k r d a e w = ap instr_of e ∙ ap (λ o. M o d a) (sym (chosen m_ops FMV_X_D refl k r w))

pub is_R4 : (i : Declared.Instr) (k r d a b c m : ℕ) → i ≡ Code.R4 k d a b c m → r ≡ cond (ltb k 4) k 0 → instr_of i ≡ R4 (get_or r4_ops r FMADD_D) d a b c m
is_R4 i k r d a b c m e w = ap instr_of e ∙ ap (λ o. R4 o d a b c m) (sym (chosen r4_ops FMADD_D refl k r w))

pub is_I : (i : Declared.Instr) (k r d a : ℕ) (z : ℤ) → i ≡ Code.I k d a z → r ≡ cond (ltb k 8) k 0 → instr_of i ≡ I (get_or i_ops r ADDI) d a z
is_I i k r d a z e w = ap instr_of e ∙ ap (λ o. I o d a z) (sym (chosen i_ops ADDI refl k r w))

pub is_Shift : (i : Declared.Instr) (k r d a : ℕ) (z : ℤ) → i ≡ Code.Shift k d a z → r ≡ cond (ltb k 3) k 0 → instr_of i ≡ Shift (get_or shift_ops r SLLI) d a z
is_Shift i k r d a z e w = ap instr_of e ∙ ap (λ o. Shift o d a z) (sym (chosen shift_ops SLLI refl k r w))

pub is_S : (i : Declared.Instr) (k r a b : ℕ) (z : ℤ) → i ≡ Code.S k a b z → r ≡ cond (ltb k 2) k 0 → instr_of i ≡ S (get_or s_ops r SD) a b z
is_S i k r a b z e w = ap instr_of e ∙ ap (λ o. S o a b z) (sym (chosen s_ops SD refl k r w))

pub is_B : (i : Declared.Instr) (k r a b : ℕ) (z : ℤ) → i ≡ Code.B k a b z → r ≡ cond (ltb k 6) k 0 → instr_of i ≡ B (get_or b_ops r BEQ) a b z
is_B i k r a b z e w = ap instr_of e ∙ ap (λ o. B o a b z) (sym (chosen b_ops BEQ refl k r w))

pub is_U : (i : Declared.Instr) (k r d : ℕ) (z : ℤ) → i ≡ Code.U k d z → r ≡ cond (ltb k 2) k 0 → instr_of i ≡ U (get_or u_ops r LUI) d z
is_U i k r d z e w = ap instr_of e ∙ ap (λ o. U o d z) (sym (chosen u_ops LUI refl k r w))
