-- An accepted file is a good program.
use mathlib.Core.Path.{◌≡◌, refl, subst}
use mathlib.Core.Bool.{Bool, ◌&&◌, cond}
use mathlib.Core.List.{List, [], ◌∷◌, ◌++◌}
use mathlib.Core.Option.{Option, some, none, IsSome}
use Prim.Native.Nat.{ℕ, zero, suc, ◌+◌, ◌^◌, ◌≤◌, ◌<◌}
use native.Mathlib.Omega.{arith}
use native.Mathlib.Decide.{dec_lt}
use lib.Dec.{leb, leb→le}
use lib.ListN.{length, get_or, get_elem?}
use Rattle.base.proofs.Bools.{and_l, passed}
use Rattle.refusal.specs.Answer.{accepted}
use Rattle.ast.specs.declared.Head.{Head}
use Rattle.ast.specs.declared.Order.{Order}
use Rattle.ast.specs.declared.Order.TheVariants.{Unary, Scratched, Binary, Fused, Ifelse, LoadConst, Load, Save, BranchIf, SetLabel}
use Rattle.assembler.specs.Item.{Item}
use Rattle.assembler.specs.Bytes.{room}
use Rattle.assembler.specs.Put.{jumps, labels}
use Rattle.ast.specs.Constant.{constant_label}
use Rattle.reading.specs.Line.{Line, order, constant}
use Rattle.orders.specs.Code.{code}
use Rattle.orders.specs.Fault.{fault}
use Rattle.ast.specs.Uses.{registers_fit}
use Rattle.finish.proofs.All.{zero_then}
use Rattle.reading.specs.Program.{Program, constants, label_line}
use Rattle.call.specs.Layout.{span, body, constants_from, entry, exit, code_items, pad, data_items, items, code_length}
use Rattle.call.proofs.Good.{Named, Good}
use Rattle.call.proofs.Items.{span_append, Unset, unset_append, fresh_unset}
use Rattle.call.proofs.Labels.{Early, Late, entry_fresh, exit_fresh}
use Rattle.call.proofs.Padding.{padding_is}
use Rattle.call.proofs.Placing.{body_unset}
use Rattle.routine.specs.Routine.{shared, room_number, program_of}
use Rattle.correctness.proofs.Taken.{FitLine, FitLines, Taken, taken}
use Rattle.correctness.proofs.Reached.{Jumping, jumping_line, Placed, body_reached, unset_none, constants_unset, no_line}

-- ---- lines

line_at : (H : Head) (ls : List Line) (n : ℕ) (l : Line) → FitLines H ls → get_elem? ls n ≡ some l → FitLine H l
line_at H [] n l f e = let z : ◌≡◌ {A = ℕ} 0 1 = cc in absurd (omega arith)
line_at H (k ∷ ls) zero l f e = let z : k ≡ l = cc in subst (FitLine H) z f.0
line_at H (k ∷ ls) (suc n) l f e = line_at H ls n l f.1 e

constant_at : (H : Head) (ls : List Line) (k : ℕ) → FitLines H ls → k < length (constants ls) → get_or (constants ls) k 0 < 2 ^ 64
unfolding constants
constant_at H [] k f h = absurd (omega arith)
constant_at H (order o ∷ ls) k f h = constant_at H ls k f.1 h
constant_at H (constant c ∷ ls) zero f h = f.0
constant_at H (constant c ∷ ls) (suc k) f h = constant_at H ls k f.1 (omega arith)

-- ---- room

pub fits_room : (size : ℕ) (p : Program) → room_number size (entry p ++ body p.lines) (exit p ++ data_items p) ≡ 0 → code_length p ≤ room size
unfolding items
fits_room size p e =
    let before : List Item = entry p ++ body p.lines in
    let is : List Item = exit p ++ data_items p in
    let a : Bool = leb (span before + span is) (room size) in
    let b : Bool = leb (jumps before + jumps is) 4096 in
    let u = zero_then (shared (labels is) (labels before)) 3 (cond (a && b) 0 7) e in
    let w = leb→le (span before + span is) (room size) (and_l a b (passed (a && b) 0 6 u.1).0) in
    omega (arith, w, span_append (entry p) (body p.lines), span_append (exit p) (data_items p), span_append (code_items p) (data_items p), span_append (entry p) (body p.lines ++ exit p), span_append (body p.lines) (exit p))

-- ---- labels

module _ (p : Program) (f : FitLines p.head p.lines) where
  -- no line sets label l
  abbrev Lineless : (l : ℕ) → Type 0
  Lineless l = (i k : ℕ) → get_elem? p.lines i ≡ some (order (SetLabel k)) → k ≡ l → ⊥

  -- a label of no line and no constant, and none of the frames', isn't set
  not_placed : (l : ℕ) → l < 2032 → Lineless l → ((i : ℕ) → i < length (constants p.lines) → constant_label (0 + i) ≡ l → ⊥) → Placed (items p) l → ⊥
  unfolding items
  not_placed l h a b c =
      c (unset_none l 0 (items p)
      (unset_append l (code_items p) (data_items p)
      (unset_append l (entry p) (body p.lines ++ exit p) (fresh_unset l (entry p) Early (entry_fresh p.head) (λ v. omega (arith, v.0)))
      (unset_append l (body p.lines) (exit p) (body_unset l p.lines a) (fresh_unset l (exit p) Late (exit_fresh p.head) (λ v. omega (arith, v.0)))))
      (unset_append l (pad p) (constants_from 0 (constants p.lines)) (padding_is (Unset l) tt tt (span (code_items p)) (length (constants p.lines))) (constants_unset l 0 (constants p.lines) b))))

  user_label : (k : ℕ) → fault (SetLabel k) ≡ 0 → k ≤ 1023
  unfolding fault
  user_label k e = leb→le k 1023 (passed (leb k 1023) 0 2 e).0

  -- a user's label that is placed has a line
  lined : (l : ℕ) → l ≤ 1023 → Placed (items p) l → IsSome (label_line l 0 p.lines)
  lined l h c = by (label_line l 0 p.lines) refl
    where
      by : (o : Option ℕ) → label_line l 0 p.lines ≡ o → IsSome o
      by (some n) e = tt
      by none e = absurd (not_placed l (omega arith) (no_line l 0 p.lines e) (λ i b q. omega arith) c)

  -- a constant's label that is placed has a constant
  there : (k : ℕ) → k ≤ 1007 → Placed (items p) (constant_label k) → k < length (constants p.lines)
  there k h c = by (dec_lt k (length (constants p.lines)))
    where
      by : Dec (k < length (constants p.lines)) → k < length (constants p.lines)
      by (yes b) = b
      by (no b) =
          absurd (not_placed (constant_label k) (omega arith)
          (λ i j e q. omega (arith, user_label j (line_at p.head p.lines i (order (SetLabel j)) f e).0))
          (λ i u q. omega (arith, b)) c)

  named : (o : Order) → fault o ≡ 0 → Jumping (Placed (items p)) (code o) → Named p.lines o
  unfolding code fault
  named (Unary k d s) e j = tt
  named (Scratched k d s t) e j = tt
  named (Binary k d a b) e j = tt
  named (Fused k d a b c) e j = tt
  named (Ifelse d a b i) e j = tt
  named (LoadConst d k) e j = there k (leb→le k 1007 (passed (leb k 1007) 0 8 (passed (registers_fit (d ∷ [])) (cond (leb k 1007) 0 9) 0 e).1).0) j.0
  named (Load d q i) e j = tt
  named (Save s q i) e j = tt
  named (BranchIf c l t) e j = lined l (leb→le l 1023 (passed (leb l 1023) 0 2 (passed (registers_fit (c ∷ [])) (cond (leb l 1023) 0 3) 0 e).1).0) j.0
  named (SetLabel l) e j = tt

-- What a file is taken as is a good program.
pub taken_good : (size : ℕ) (file : List ℕ) (p : Program) → Taken size file p → Good p
taken_good size file p t =
    let f : FitLines p.head p.lines = t.fitting.1 in
    record {
      counts = t.fitting.0.0;
      cap = t.fitting.0.1;
      orders =
          λ n o g.
          let x = line_at p.head p.lines n (order o) f g in
          record {
            fault_free = x.0;
            index = x.1;
            saves = x.2;
            named = named p f o x.0 (jumping_line (Placed (items p)) p.lines n o g (body_reached p t.set));
          };
      bits = λ k h. constant_at p.head p.lines k f h;
      room = omega (arith, fits_room size p t.roomy);
    }

-- An accepted file is a good program.
pub accepted_good : (size : ℕ) (file : List ℕ) (p : Program) → program_of size file ≡ accepted p → Good p
accepted_good size file p e = taken_good size file p (taken size file p e)
