-- What is wrong with a jump. Assumes nothing.
use mathlib.Core.Path.{◌≡◌, refl, ap, ◌∙◌}
use mathlib.Core.Bool.{Bool, true, false, not, ◌&&◌, ◌||◌, cond}
use mathlib.Core.List.{List}
use Prim.Native.Nat.{ℕ, suc, ◌+◌, ◌%◌, ◌^◌, ◌≤◌, ◌<◌}
use native.Mathlib.Omega.{arith}
use borrow.Author.Tests.{not-false, ltb-true, leb-true, eqb-true}
use lib.Dec.{leb, eqb, ltb}
use lib.IntN.{sub_ℕ}
use lib.ListN.{get_or}
use Rattle.isa.specs.Instr.{valid, holds, offset}
use Rattle.isa.proofs.Validity.{Valid, valid_Valid}
use Rattle.base.proofs.Bools.{both}
use Rattle.assembler.specs.Jump.{kind_of, jump_instr}
use Rattle.assembler.specs.Label.{is_set, place_of, made}
use Rattle.assembler.specs.Memory.{Jump}
use Rattle.assembler.proofs.Tests.{no}
use Rattle.finish.specs.Finish.{label_good, labels_good, jump_good, unset, far, way, jump_number}
use Rattle.finish.proofs.First.{none}
use Rattle.finish.proofs.Near.{near}

-- ---- labels

pub at_first : (len : ℕ) (labels : List ℕ) → labels_good len labels ≡ true → (l : ℕ) → l < 2039 → label_good len (get_or labels l 0) ≡ true
unfolding labels_good
at_first len labels h l q =
    let e = none (λ i. not (label_good len (get_or labels i 0))) 0 2039 (leb-true 2039 _ h) l q in
    let z : 0 + l ≡ l = omega arith in
    not-false _ (rw z at e)

-- a good label is no further than the end
pub place_small : (len e : ℕ) → label_good len e ≡ true → place_of e ≤ len
place_small len e h = by (leb (made e) 4096) (eqb (e % 2 ^ 32) 0) refl h
  where
    by : (a b : Bool) → eqb (e % 2 ^ 32) 0 ≡ b → (a && (not (not b) || (leb (place_of e) len && eqb (place_of e % 4) 0))) ≡ true → place_of e ≤ len
    by true true q p = omega (arith, eqb-true (e % 2 ^ 32) 0 q)
    by true false q p = leb-true _ _ (both _ _ p).0
    by false b q p = no p

-- ---- jumps

pub wrong_bad : (labels : List ℕ) (len : ℕ) (j : Jump) → jump_good len j ≡ false → 2 ≡ jump_number labels len j
unfolding jump_number
wrong_bad labels len j g = simp g

-- what is asked of a good jump's numbers
pub record Good (len : ℕ) (j : Jump) : Type 0 where
  pub inside : j.word + 4 ≤ len
  pub even : j.word % 4 ≡ 0
  pub register : j.reg < 32
  pub label : j.label < 2039
  pub kind : j.kind < 6

pub good : (len : ℕ) (j : Jump) → jump_good len j ≡ true → Good len j
good len j e =
    let g = both (leb (j.word + 4) len) _ e in
    let g1 = both (eqb (j.word % 4) 0) _ g.1 in
    let g2 = both (ltb j.reg 32) _ g1.1 in
    let g3 = both (ltb j.label 2039) _ g2.1 in
    record {
      inside = leb-true _ _ g.0;
      even = eqb-true _ _ g1.0;
      register = ltb-true _ _ g2.0;
      label = ltb-true _ _ g3.0;
      kind = ltb-true _ _ g3.1;
    }

module _ (labels : List ℕ) (len : ℕ) (j : Jump) (g : jump_good len j ≡ true) where
  pub wrong_unset : not (is_set (get_or labels j.label 0)) ≡ true → 5 ≡ jump_number labels len j
  unfolding jump_number
  wrong_unset u = simp (g, u)

  module _ (u : not (is_set (get_or labels j.label 0)) ≡ false) (k : j.kind < 6) (r : j.reg < 32) where
    by_far : (t : Bool) → valid (jump_instr (kind_of j.kind) j.reg (way labels j)) ≡ not t → leb 4 j.kind && not (holds (offset 13 (way labels j))) ≡ t → cond (valid (jump_instr (kind_of j.kind) j.reg (way labels j))) 0 6 ≡ jump_number labels len j
    unfolding jump_number
    by_far true e f = rw e (simp (g, u, f))
    by_far false e f = rw e (simp (g, u, f))

    -- p is the label's place
    pub wrong_far : (p : ℕ) (t : Bool) → p ≡ place_of (get_or labels j.label 0) → t ≡ valid (jump_instr (kind_of j.kind) j.reg (sub_ℕ p j.word)) → cond t 0 6 ≡ jump_number labels len j
    wrong_far p t e f =
        ap (λ (u : Bool). cond u 0 6) (f ∙ ap (λ (q : ℕ). valid (jump_instr (kind_of j.kind) j.reg (sub_ℕ q j.word))) e)
        ∙ by_far (leb 4 j.kind && not (holds (offset 13 (way labels j)))) (near j.kind j.reg (way labels j) k r) refl

-- ---- a jump with nothing wrong

pub zero_then : (t : Bool) (x y : ℕ) → cond t (suc x) y ≡ 0 → (t ≡ false) × (y ≡ 0)
zero_then true x y e = absurd (omega arith)
zero_then false x y e = (refl, e)

pub zero_else : (t : Bool) (x y : ℕ) → cond t x (suc y) ≡ 0 → (t ≡ true) × (x ≡ 0)
zero_else true x y e = (refl, e)
zero_else false x y e = absurd (omega arith)

pub record Right (labels : List ℕ) (len : ℕ) (j : Jump) : Type 0 where
  pub good : Good len j
  pub known : is_set (get_or labels j.label 0) ≡ true
  pub valid : Valid (jump_instr (kind_of j.kind) j.reg (way labels j))

pub right : (labels : List ℕ) (len : ℕ) (j : Jump) → jump_number labels len j ≡ 0 → Right labels len j
unfolding jump_number
right labels len j e =
    let a = zero_else (jump_good len j) _ 1 e in
    let b = zero_then (not (is_set (get_or labels j.label 0))) 4 _ a.1 in
    let d = zero_then (leb 4 j.kind && not (holds (offset 13 (way labels j)))) 5 _ b.1 in
    let g = good len j a.0 in
    record {
      good = g;
      known = not-false _ b.0;
      valid = valid_Valid (jump_instr (kind_of j.kind) j.reg (way labels j)) (near j.kind j.reg (way labels j) g.kind g.register ∙ ap not d.0);
    }

abbrev by_tests : Bool → Bool → Bool → ℕ
by_tests good unset far = cond good (cond unset 5 (cond far 6 0)) 2

pub one_of : (labels : List ℕ) (len : ℕ) (j : Jump) → (jump_number labels len j ≡ 2 → ⊥) → (jump_number labels len j ≡ 5 → ⊥) → (jump_number labels len j ≡ 6 → ⊥) → jump_number labels len j ≡ 0
unfolding jump_number
one_of labels len j a b c = by (jump_good len j) (unset labels j) (far labels j) a b c
  where
    by : (g u f : Bool) → (by_tests g u f ≡ 2 → ⊥) → (by_tests g u f ≡ 5 → ⊥) → (by_tests g u f ≡ 6 → ⊥) → by_tests g u f ≡ 0
    by true true f a b c = absurd (b refl)
    by true false true a b c = absurd (c refl)
    by true false false a b c = refl
    by false u f a b c = absurd (a refl)
