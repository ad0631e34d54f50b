-- What `place` does with a plan, in terms of the instructions whose words it has. Assumes nothing.
use mathlib.Core.Path.{◌≡◌, refl, sym, ap, ◌∙◌}
use mathlib.Core.Bool.{Bool, true, false, cond}
use mathlib.Core.List.{List, [], ◌∷◌, ◌++◌, map}
use Prim.Native.Nat.{ℕ, ◌≤◌}
use native.Mathlib.Omega.{arith}
use borrow.Author.Tests.{le-ltb, ne_eqb, ltb-true, eqb-true, eqb-false}
use lib.Dec.{ltb, eqb}
use Rattle.std.specs.Prelude.{Option, Some, None}
use Rattle.std.specs.Option.{option_map}
use Rattle.isa.specs.Instr.{Instr}
use Rattle.isa.specs.Encode.{encode}
use Rattle.assembler.specs.Item.{Item, instr, raw}
use Rattle.assembler.specs.State.{State}
use Rattle.assembler.specs.Put.{words, targets, labels, place, placed, ranked, verdict, put_number, settled, put}
use Rattle.assembler.specs.Plan.{rank, earlier, refusal_of, fault_number, operand_number, tail_items, tail_fault, plan_words, plan_items, plan_fault, all_labels, sets_fault}
use Rattle.refusal.specs.declared.Refusal.{Refusal}
use Rattle.assembler.specs.declared.Plan.{Plan}
use Rattle.assembler.specs.declared.Tail.{Tail}
use Rattle.assembler.proofs.Items.{targets_append, targets_raw, targets_instrs}
use Rattle.assembler.proofs.Steps.{settled_no, fault_first}

-- ---- faults

ranked_some : (fault : ℕ) (c s t f : Bool) → (fault ≡ 0 → ⊥) → ranked fault c s t f ≡ 0 → ⊥
unfolding ranked
ranked_some fault c s t f h = rw (ne_eqb fault 0 h) (by c (eqb fault 1) (eqb fault 3) s)
  where
    by : (c r l s : Bool) → cond c 8 (cond r 1 (cond l 3 (cond s fault 2))) ≡ 0 → ⊥
    by true r l s e = absurd (omega arith)
    by false true l s e = absurd (omega arith)
    by false false true s e = absurd (omega arith)
    by false false false true e = h e
    by false false false false e = absurd (omega arith)

settled_same : (k : ℕ) (s t : State) → (k ≡ 0 → ⊥) → settled k s s ≡ settled k s t
settled_same k s t h = settled_no k s s h ∙ sym (settled_no k s t h)

-- an order with a fault is refused whatever its items are, but for where its jumps go
pub put_asked : (tag fault : ℕ) (is : List Item) (ls ts : List ℕ) (w : ℕ) (s : State) → (fault ≡ 0 → ⊥) → ts ≡ targets is → settled (verdict fault ls ts w s) s s ≡ put tag fault is s
unfolding put
put_asked tag fault is ls ts w s h g =
    let c = s.asm.closed in
    let e : verdict fault ls ts w s ≡ put_number fault is s = ap (λ (l : List ℕ). verdict fault ls l w s) g ∙ fault_first fault c _ _ _ _ _ h in
    ap (λ (k : ℕ). settled k s s) e ∙ settled_same (put_number fault is s) s (placed tag is s) (ranked_some fault c _ _ _ h)

pub put_fault : (tag tag' fault : ℕ) (is js : List Item) (s : State) → (fault ≡ 0 → ⊥) → targets is ≡ targets js → put tag fault is s ≡ put tag' fault js s
put_fault tag tag' fault is js s h g = sym (put_asked tag fault is [] (targets js) 0 s h (sym g)) ∙ put_asked tag' fault js [] (targets js) 0 s h refl

-- words as numbers, or as instructions
module _ (t : List Item) where
  words_same : (is : List Instr) → words (map raw (map encode is) ++ t) ≡ words (map instr is ++ t)
  unfolding words
  words_same [] = refl
  words_same (i ∷ is) = ap (λ (l : List ℕ). encode i ∷ l) (words_same is)

  targets_same : (is : List Instr) → targets (map raw (map encode is) ++ t) ≡ targets (map instr is ++ t)
  unfolding targets
  targets_same [] = refl
  targets_same (i ∷ is) = targets_same is

  labels_same : (is : List Instr) → labels (map raw (map encode is) ++ t) ≡ labels (map instr is ++ t)
  unfolding labels
  labels_same [] = refl
  labels_same (i ∷ is) = labels_same is

  placed_same : (tag : ℕ) (is : List Instr) (s : State) → placed tag (map raw (map encode is) ++ t) s ≡ placed tag (map instr is ++ t) s
  unfolding placed place
  placed_same tag [] s = refl
  placed_same tag (i ∷ is) s = placed_same tag is (place tag (instr i) s)

  pub put_same : (tag fault : ℕ) (is : List Instr) (s : State) → put tag fault (map raw (map encode is) ++ t) s ≡ put tag fault (map instr is ++ t) s
  unfolding put
  put_same tag fault is s = rw (words_same is, targets_same is, labels_same is, placed_same tag is s)

rank_small : (f : Option Refusal) → rank (fault_number f) ≤ 12
rank_small None = omega arith
rank_small (Some Refusal.Register) = omega arith
rank_small (Some Refusal.Value) = omega arith
rank_small (Some Refusal.Label) = omega arith
rank_small (Some Refusal.Twice) = omega arith
rank_small (Some Refusal.Unset) = omega arith
rank_small (Some Refusal.Far) = omega arith
rank_small (Some Refusal.Full) = omega arith
rank_small (Some Refusal.Closed) = omega arith
rank_small (Some Refusal.Count) = omega arith
rank_small (Some Refusal.Base) = omega arith
rank_small (Some Refusal.Unsaved) = omega arith
rank_small (Some Refusal.Line) = omega arith

-- a fault and none
pub earlier_none : (f : Option Refusal) → earlier (fault_number f) 0 ≡ fault_number f
earlier_none f = rw (le-ltb 12 (rank (fault_number f)) (rank_small f))

fault_zero : (f : Option Refusal) (b : ℕ) → earlier (fault_number f) b ≡ 0 → fault_number f ≡ 0
fault_zero f b e = by (ltb (rank b) (rank (fault_number f))) refl e
  where
    by : (t : Bool) → ltb (rank b) (rank (fault_number f)) ≡ t → cond t b (fault_number f) ≡ 0 → fault_number f ≡ 0
    by false q e = e
    by true q e = absurd (omega (arith, ltb-true (rank b) (rank (fault_number f)) q, ap rank e, rank_small f))

-- where there is none, all labels are labels
pub none_asked : (x : Option Refusal) (ls : List ℕ) → earlier (fault_number x) (sets_fault ls) ≡ 0 → all_labels ls ≡ true
none_asked x ls e = by (all_labels ls) refl e
  where
    by : (b : Bool) → all_labels ls ≡ b → earlier (fault_number x) (cond b 0 2) ≡ 0 → all_labels ls ≡ true
    by true p q = p
    by false p q = absurd (let z = fault_zero x 2 q in let w = rw z at q in omega (arith, w))

-- A plan that stands for a fault and, where there is none, for instructions.
module _ (p : Plan) (is : List Instr) (t : Tail) (tag : ℕ) (s : State) (w : operand_number p.fault ≡ 0 → plan_words p ≡ map encode is) where
  same_targets : targets (plan_items p t) ≡ targets (map instr is ++ tail_items t)
  same_targets =
      targets_append (map raw (plan_words p)) (tail_items t)
      ∙ ap (λ (l : List ℕ). l ++ targets (tail_items t)) (targets_raw (plan_words p) ∙ sym (targets_instrs is))
      ∙ sym (targets_append (map instr is) (tail_items t))

  pub stands_put : put tag (plan_fault p t) (plan_items p t) s ≡ put tag (plan_fault p t) (map instr is ++ tail_items t) s
  stands_put = by (eqb (plan_fault p t) 0) refl
    where
      by : (z : Bool) → eqb (plan_fault p t) 0 ≡ z → put tag (plan_fault p t) (plan_items p t) s ≡ put tag (plan_fault p t) (map instr is ++ tail_items t) s
      by false q = put_fault tag tag (plan_fault p t) (plan_items p t) (map instr is ++ tail_items t) s (eqb-false _ 0 q) same_targets
      by true q = rw (w (fault_zero (option_map refusal_of p.fault) (tail_fault t) (eqb-true _ 0 q))) (put_same (tail_items t) tag (plan_fault p t) is s)
