-- A plan of valid instructions is placed as the instructions' items; a fault is answered whatever the items. Assumes nothing.
use mathlib.Core.Path.{◌≡◌, refl, sym, ap, ap₂, ◌∙◌}
use mathlib.Core.Bool.{Bool, true, false, cond}
use mathlib.Core.List.{List, [], ◌++◌, map, append-nil}
use Prim.Native.Nat.{ℕ, ◌≤◌, min}
use native.Mathlib.Nat.{min-eq_left}
use native.Mathlib.Omega.{arith}
use borrow.Author.Tests.{eqb-true, eqb-false}
use lib.Dec.{eqb}
use lib.ListN.{length}
use Rattle.isa.specs.Instr.{Instr}
use Rattle.assembler.specs.Item.{instr}
use Rattle.assembler.specs.State.{State, Outcome}
use Rattle.assembler.specs.Put.{targets, put}
use Rattle.assembler.specs.Plan.{refusal_of, operand_number, tail_items, tail_fault, plan_fault, plan_items}
use Rattle.assembler.proofs.Items.{targets_instrs}
use Rattle.assembler.proofs.Plans.{put_fault, earlier_none, stands_put}
use Rattle.std.proofs.Common.{Option}
use Rattle.std.specs.Option.{option_map}
use Rattle.assembler.specs.declared.Fault.{Fault}
use Rattle.assembler.specs.declared.Plan.{Plan}
use Rattle.assembler.specs.declared.Tail.{Tail}
use Rattle.assembler.specs.declared.Tail.TheVariants.{Nothing}
use Rattle.accesses.specs.Plans.{plan_of}
use Rattle.accesses.specs.Inner.Plans.{settled_plan}
use Rattle.accesses.specs.Fault.{offset_limit, one_fault, last_pair, pair_fault, stack_fault}
use Rattle.accesses.proofs.Runs.{pair_taken}
use Rattle.accesses.proofs.Stack.{size_fits}
use Rattle.accesses.proofs.Collect.{Built, AllValid, built}

-- A plan's fault alone is answered.
pub own_fault : (f : Option Fault) (w : List ℕ) → plan_fault (record { n = 0; fault = f; w = w }) Nothing ≡ operand_number f
own_fault f w = earlier_none (option_map refusal_of f)

pub alone : (f : Option Fault) (w : List ℕ) (o : Outcome) (s : State)
    → o ≡ put 0 (plan_fault (record { n = 0; fault = f; w = w }) Nothing) (plan_items (record { n = 0; fault = f; w = w }) Nothing) s → o ≡ put 0 (operand_number f) [] s
alone f w o s e = e ∙ ap (λ (k : ℕ). put 0 k [] s) (own_fault f w)

-- ---- a plan of valid instructions

module _ (p : Plan) (is : List Instr) (e : p ≡ plan_of is) (few : length is ≤ 12) (v : AllValid is) (tag : ℕ) (s : State) where
  pub plan_tail : (t : Tail) → tail_fault t ≡ 0 → put tag (plan_fault p t) (plan_items p t) s ≡ put tag 0 (map instr is ++ tail_items t) s
  plan_tail t z =
      let b : Built (plan_of is) is = built is few v in
      stands_put p is t tag s (λ q. rw e b.words) ∙ rw (e, b.fault, z)

  pub plan_code : put tag (plan_fault p Nothing) (plan_items p Nothing) s ≡ put tag 0 (map instr is) s
  plan_code = plan_tail Nothing refl ∙ rw (append-nil (map instr is))

-- ---- the two together

none : targets [] ≡ []
unfolding targets
none = refl

pub settles : (is : List Instr) (fault : ℕ) (p : Plan) (s : State) → (fault ≡ 0 → (p ≡ plan_of is) × AllValid is × (length is ≤ 12))
    → settled_plan fault p s ≡ put 0 fault (map instr is) s
unfolding settled_plan
settles is fault p s h = by (eqb fault 0) refl
  where
    by : (t : Bool) → eqb fault 0 ≡ t
        → cond t (put 0 (plan_fault p Nothing) (plan_items p Nothing) s) (put 0 fault [] s) ≡ put 0 fault (map instr is) s
    by true e =
        let z : fault ≡ 0 = eqb-true fault 0 e in
        let k = h z in
        plan_code p is k.0 k.2 k.1 0 s ∙ rw z
    by false e = put_fault 0 0 fault [] (map instr is) s (eqb-false fault 0 e) (none ∙ sym (targets_instrs is))

-- the same of an outcome, with the fault by its definition
module _ (fault : ℕ) (p : Plan) (s : State) (o : Outcome) (e : o ≡ settled_plan fault p s) where
  pub settled_as : (is : List Instr) (want : ℕ) → fault ≡ want → (want ≡ 0 → (p ≡ plan_of is) × AllValid is × (length is ≤ 12))
      → o ≡ put 0 want (map instr is) s
  settled_as is want q h = e ∙ settles is fault p s (λ z. h (sym q ∙ z)) ∙ ap (λ (k : ℕ). put 0 k (map instr is) s) q

  -- an access of one cell
  pub one_as : (code : ℕ → ℕ → ℕ → List Instr) (r b n : ℕ) → fault ≡ one_fault r b n → (one_fault r b n ≡ 0 → AllValid (code r b n)) → length (code r b n) ≤ 4 → p ≡ plan_of (code r b n) → o ≡ put 0 (one_fault r b n) (map instr (code r b n)) s
  one_as code r b n q v l h = settled_as (code r b n) (one_fault r b n) q (λ z. (h, v z, omega arith))

  -- of two, planned with operands that fit
  pub pair_as : (code : ℕ → ℕ → ℕ → List Instr) (r b n : ℕ) {r' n' : ℕ} → fault ≡ pair_fault r b n → (pair_fault r b n ≡ 0 → AllValid (code r b n)) → length (code r b n) ≤ 5 → r' ≡ min r last_pair → n' ≡ min n offset_limit → p ≡ plan_of (code r' b n') → o ≡ put 0 (pair_fault r b n) (map instr (code r b n)) s
  pair_as code r b n q v l i j h =
      settled_as (code r b n) (pair_fault r b n) q
      (λ z. let t = pair_taken r b n z in (h ∙ ap₂ (λ (x y : ℕ). plan_of (code x b y)) (i ∙ min-eq_left t.0) (j ∙ min-eq_left t.1), v z, omega arith))

  -- a stack size
  pub stack_as : (code : ℕ → List Instr) (n : ℕ) {n' : ℕ} → fault ≡ stack_fault n → AllValid (code n) → length (code n) ≤ 4 → n' ≡ min n offset_limit → p ≡ plan_of (code n') → o ≡ put 0 (stack_fault n) (map instr (code n)) s
  stack_as code n q v l j h =
      settled_as (code n) (stack_fault n) q (λ z. (h ∙ ap (λ (x : ℕ). plan_of (code x)) (j ∙ min-eq_left (size_fits n z)), v, omega arith))
