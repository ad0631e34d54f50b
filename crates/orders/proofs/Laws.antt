-- Laws of the orders' code: valid instructions, and how many words. Assumes nothing.
use mathlib.Core.Path.{◌≡◌, refl}
use mathlib.Core.List.{List, [], ◌∷◌, ◌++◌, map}
use Prim.Native.Nat.{ℕ, ◌*◌, ◌≤◌}
use native.Mathlib.Omega.{arith}
use lib.IntN.{pos}
use lib.ListN.{length, length-append}
use Rattle.isa.specs.Instr.{Instr, I, S, LD, FLD, FSD}
use Rattle.machine.specs.Step.{words}
use Rattle.machine.proofs.Placed.{Valids}
use Rattle.ast.specs.Constant.{constant_label}
use Rattle.ast.specs.declared.Order.{Order}
use Rattle.ast.specs.declared.Order.TheVariants.{Unary, Scratched, Binary, Fused, Ifelse, LoadConst, Load, Save, BranchIf, SetLabel}
use Rattle.ast.specs.declared.Place.TheVariants.{Stack}
use Rattle.assembler.specs.Item.{instr}
use Rattle.assembler.specs.Resolved.{resolved}
use Rattle.accesses.specs.Code.{near, load_float_code, save_float_code, load_int_code}
use Rattle.accesses.specs.Fault.{offset_limit}
use Rattle.accesses.proofs.Then.{valids_join}
use Rattle.accesses.proofs.Runs.{access_length, load_float_valid, save_float_valid, load_int_valid}
use Rattle.reading.specs.Line.{Line, order, constant, weight}
use Rattle.ast.specs.Uses.{sets, weighs}
use Rattle.orders.specs.Code.{base, unary_code, scratched_code, binary_code, fused_code, choose_code, skip, code, line_code}
use Rattle.orders.specs.Fault.{fault, last_user_label}
use Rattle.orders.proofs.Items.{resolve, resolve_instrs, resolved_instrs, resolved_length, registers_below, checked_below}
use Rattle.orders.proofs.Arithmetic.{unary_valid, scratched_valid, binary_valid, fused_valid, unary_length, scratched_length, binary_length}
use Rattle.orders.proofs.Cells.{cell_accepted}
use Rattle.orders.proofs.Jumps.{const_valid, branch_valid}

module _ (places : ℕ → ℕ) (here : ℕ) where
  -- ---- the words are those of instructions

  instrs_words : (is : List Instr) → words (resolve places here (map instr is)) ≡ resolved places here (map instr is)
  instrs_words is = rw (resolve_instrs places here is, resolved_instrs places here is)

  pub code_words : (o : Order) → words (resolve places here (code o)) ≡ resolved places here (code o)
  unfolding code resolve resolved
  code_words (Unary k d s) = instrs_words (unary_code k d s)
  code_words (Scratched k d s t) = instrs_words (scratched_code k d s t)
  code_words (Binary k d a b) = instrs_words (binary_code k d a b)
  code_words (Fused k d a b c) = refl
  code_words (Ifelse d a b i) = instrs_words (load_int_code 5 (base Stack) (8 * i) ++ choose_code d a b)
  code_words (LoadConst d k) = refl
  code_words (Load d p i) = instrs_words (load_float_code d (base p) (8 * i))
  code_words (Save s p i) = instrs_words (save_float_code s (base p) (8 * i))
  code_words (BranchIf c l e) = refl
  code_words (SetLabel l) = refl

  -- ---- and each instruction of an accepted order is valid

  instrs_valid : (is : List Instr) → Valids is → Valids (resolve places here (map instr is))
  instrs_valid is v = rw (resolve_instrs places here is) v

  pub code_valid : (o : Order) → fault o ≡ 0 → Valids (resolve places here (code o))
  unfolding code fault resolve
  code_valid (Unary k d s) h =
      let r = registers_below (d ∷ s ∷ []) h in
      instrs_valid (unary_code k d s) (unary_valid k d s r.0 r.1.0)
  code_valid (Scratched k d s t) h =
      let r = registers_below (d ∷ s ∷ t ∷ []) h in
      instrs_valid (scratched_code k d s t) (scratched_valid k d s t r.0 r.1.0 r.1.1.0)
  code_valid (Binary k d a b) h =
      let r = registers_below (d ∷ a ∷ b ∷ []) h in
      instrs_valid (binary_code k d a b) (binary_valid k d a b r.0 r.1.0 r.1.1.0)
  code_valid (Fused k d a b c) h =
      let r = registers_below (d ∷ a ∷ b ∷ c ∷ []) h in
      instrs_valid (fused_code k d a b c) (fused_valid k d a b c r.0 r.1.0 r.1.1.0 r.1.1.1.0)
  code_valid (Ifelse d a b i) h =
      let r = checked_below (d ∷ a ∷ b ∷ []) (8 * i) offset_limit 1 h in
      let is : List Instr = load_int_code 5 (base Stack) (8 * i) in
      instrs_valid (is ++ choose_code d a b)
      (valids_join is (choose_code d a b) (load_int_valid 5 (base Stack) (8 * i) (cell_accepted 5 Stack (8 * i) (omega arith) r.1)) (omega arith))
  code_valid (LoadConst d k) h =
      let r = checked_below (d ∷ []) k 1007 8 h in
      const_valid places here d (constant_label k) r.0.0
  code_valid (Load d p i) h =
      let r = checked_below (d ∷ []) (8 * i) offset_limit 1 h in
      instrs_valid (load_float_code d (base p) (8 * i)) (load_float_valid d (base p) (8 * i) (cell_accepted d p (8 * i) r.0.0 r.1))
  code_valid (Save s p i) h =
      let r = checked_below (s ∷ []) (8 * i) offset_limit 1 h in
      instrs_valid (save_float_code s (base p) (8 * i)) (save_float_valid s (base p) (8 * i) (cell_accepted s p (8 * i) r.0.0 r.1))
  code_valid (BranchIf c l e) h =
      let r = checked_below (c ∷ []) l last_user_label 2 h in
      branch_valid places here c l (skip e) r.0.0
  code_valid (SetLabel l) h = tt

  -- ---- no order has more than 11 words

  instrs_length : (is : List Instr) → length is ≤ 11 → length (resolved places here (map instr is)) ≤ 11
  instrs_length is h = rw (resolved_length places here is) h

  pub code_length : (o : Order) → length (resolved places here (code o)) ≤ 11 * weighs (sets o)
  unfolding code resolved
  code_length (Unary k d s) = instrs_length (unary_code k d s) (unary_length k d s)
  code_length (Scratched k d s t) = instrs_length (scratched_code k d s t) (scratched_length k d s t)
  code_length (Binary k d a b) = instrs_length (binary_code k d a b) (binary_length k d a b)
  code_length (Fused k d a b c) = omega arith
  code_length (Ifelse d a b i) =
      let is : List Instr = load_int_code 5 (base Stack) (8 * i) in
      instrs_length (is ++ choose_code d a b)
      (omega (arith, length-append is (choose_code d a b), access_length near (λ b n. I LD 5 b (pos n) ∷ []) (base Stack) (8 * i) 1 (omega arith) (omega arith)))
  code_length (LoadConst d k) = omega arith
  code_length (Load d p i) =
      instrs_length (load_float_code d (base p) (8 * i))
      (omega (arith, access_length near (λ b n. I FLD d b (pos n) ∷ []) (base p) (8 * i) 1 (omega arith) (omega arith)))
  code_length (Save s p i) =
      instrs_length (save_float_code s (base p) (8 * i))
      (omega (arith, access_length near (λ b n. S FSD b s (pos n) ∷ []) (base p) (8 * i) 1 (omega arith) (omega arith)))
  code_length (BranchIf c l e) = omega arith
  code_length (SetLabel l) = omega arith

  pub line_length : (l : Line) → length (resolved places here (line_code l)) ≤ 11 * weight l
  unfolding line_code resolved
  line_length (order o) = code_length o
  line_length (constant c) = omega arith
