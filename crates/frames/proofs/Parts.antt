-- A part placed piece by piece is the part placed whole, where the whole was asked for first. Assumes nothing.
use mathlib.Core.Path.{◌≡◌, refl, sym, ap, subst, ◌∙◌}
use mathlib.Core.List.{List, [], ◌∷◌, ◌++◌, append_assoc, map-append}
use Prim.Native.Nat.{ℕ, suc, ◌+◌, ◌-◌, ◌≤◌, ◌<◌}
use native.Mathlib.Omega.{arith}
use borrow.Author.Tests.{lt-ltb, le-leb}
use lib.ListN.{length}
use Rattle.isa.specs.Instr.{Instr}
use Rattle.isa.specs.Encode.{encode}
use Rattle.refusal.specs.Answer.{Answer, accepted, refused}
use Rattle.assembler.specs.Limit.{label_limit}
use Rattle.assembler.specs.Item.{Item, instr, raw, jump, label}
use Rattle.assembler.specs.State.{State, Outcome}
use Rattle.assembler.specs.Put.{words, jumps, targets, place, placed, with_word, with_label, verdict, put_number, settled, put}
use Rattle.assembler.specs.Plan.{label_fault, plan_fault, plan_items}
use Rattle.assembler.specs.declared.Plan.{Plan}
use Rattle.assembler.specs.declared.Tail.TheVariants.{One}
use Rattle.assembler.specs.declared.JumpKind.{JumpKind}
use Rattle.assembler.proofs.Steps.{none_refused, put_done}
use Rattle.assembler.proofs.Items.{targets_instrs}
use Rattle.assembler.proofs.Plans.{put_asked}
use Rattle.accesses.specs.Fault.{offset_limit, stack_fault}
use Rattle.accesses.specs.Plans.{plan_of}
use Rattle.accesses.proofs.Collect.{AllValid}
use Rattle.accesses.proofs.Placed.{plan_tail}
use Rattle.finish.proofs.All.{accepts}
use Rattle.finish.proofs.Both.{Accepts, put_split}
use Rattle.frame_code.specs.Items.{code, times_over}

-- ---- code alone

pub words_code : (is : List Instr) → length (words (code is)) ≡ length is
unfolding words
words_code [] = refl
words_code (i ∷ is) = ap suc (words_code is)

pub jumps_code : (is : List Instr) → jumps (code is) ≡ 0
unfolding jumps
jumps_code is = ap length (targets_instrs is)

-- items without a jump have no use for the tag
module _ (t u : ℕ) where
  placed_untagged : (is : List Item) (s : State) → jumps is ≡ 0 → placed t is s ≡ placed u is s
  unfolding jumps targets placed place
  placed_untagged [] s h = refl
  placed_untagged (instr i ∷ is) s h = placed_untagged is (with_word (encode i) s) h
  placed_untagged (raw w ∷ is) s h = placed_untagged is (with_word w s) h
  placed_untagged (jump k l r ∷ is) s h = absurd (omega arith)
  placed_untagged (label l ∷ is) s h = placed_untagged is (with_label l s) h

  pub untagged : (f : ℕ) (is : List Item) (s : State) → jumps is ≡ 0 → put t f is s ≡ put u f is s
  unfolding put
  untagged f is s h = ap (settled (put_number f is s) s) (placed_untagged is s h)

-- ---- labels

label_holds : (l : ℕ) → l < label_limit → label_fault l ≡ 0
label_holds l h = rw (lt-ltb l label_limit h)

module _ (tag l m : ℕ) (e : l ≡ m) (h : l < label_limit) (s : State) where
  pub label_set : put 0 (label_fault l) (label l ∷ []) s ≡ put tag 0 (label m ∷ []) s
  unfolding jumps targets
  label_set = rw (label_holds l h, e) (untagged 0 tag 0 (label m ∷ []) s refl)

  -- a plan and a jump to the label
  pub plan_jump : (k : JumpKind) (p : Plan) (is : List Instr) → p ≡ plan_of is → length is ≤ 12 → AllValid is → put tag (plan_fault p (One k l 0)) (plan_items p (One k l 0)) s ≡ put tag 0 (code is ++ (jump k m 0 ∷ [])) s
  plan_jump k p is q few v = plan_tail p is q few v tag s (One k l 0) refl ∙ rw e

-- ---- faults and sizes

-- an order whose fault f was looked for first
pub faulted : (tag f want : ℕ) (is : List Item) (ts : List ℕ) (s : State) (o : Outcome) → f ≡ want → (f ≡ 0 → ⊥) → ts ≡ targets is → o ≡ settled (verdict f [] ts 0 s) s s → o ≡ put tag want is s
faulted tag f want is ts s o e h g q = q ∙ put_asked tag f is [] ts 0 s h g ∙ ap (λ (k : ℕ). put tag k is s) e

-- a stack size that is taken
pub size_put : (tag : ℕ) (is : ℕ → List Instr) (n m : ℕ) (s : State) → n ≡ m → n ≤ 32784 → put 0 (stack_fault n) (code (is n)) s ≡ put tag 0 (code (is m)) s
size_put tag is n m s e h = rw (le-leb n offset_limit (omega arith), e) (untagged 0 tag 0 (code (is m)) s (jumps_code (is m)))

-- ---- asked, then placed

abbrev Refusing : (n p : ℕ) → State → Outcome
Refusing n p s = record { answer = refused n p; state = s }

abbrev Accepting : State → Outcome
Accepting s = record { answer = accepted tt; state = s }

-- `all` is accepted in s, and of it js is left to place in t
pub record Left (tag : ℕ) (all : List Item) (s : State) (js : List Item) (t : State) : Type 0 where
  pub whole : Accepts tag all s (placed tag all s)
  pub rest : Accepts tag js t (placed tag all s)

-- the whole's number as it was asked for
module _ (tag : ℕ) (all : List Item) (s : State) (k : ℕ) (e : k ≡ put_number 0 all s) where
  -- accepted, and all of it is left
  pub opens : ◌≡◌ {A = Outcome} (Accepting s) (settled k s s) → Left tag all s all s
  opens h = let a = sym (put_done tag 0 all s (placed tag all s) (sym e ∙ none_refused k s h) refl) in record { whole = a; rest = a }

module _ {tag : ℕ} {all : List Item} {s : State} where
  module _ (is js : List Item) {t : State} (a : Left tag all s (is ++ js) t) where
    -- a piece placed, and the rest is left
    pub piece : {u : State} → ◌≡◌ {A = Outcome} (Accepting u) (put tag 0 is t) → Left tag all s js u
    piece e =
        let p = put_split tag is js t (placed tag all s) a.rest in
        record { whole = a.whole; rest = subst (λ (x : Outcome). Accepts tag js x.state (placed tag all s)) (sym (e ∙ p.0)) p.1 }

    -- which is not refused
    pub not_refused : {u : State} {n p : ℕ} {X : Type 0} → ◌≡◌ {A = Outcome} (Refusing n p u) (put tag 0 is t) → X
    not_refused e = absurd (differ (ap (λ (o : Outcome). o.answer) (e ∙ (put_split tag is js t (placed tag all s) a.rest).0)))
      where
        differ : {n p : ℕ} → ◌≡◌ {A = Answer (Unit {0})} (refused n p) (accepted tt) → ⊥
        differ q = let z : ◌≡◌ {A = ℕ} 0 1 = cc in omega arith

  -- pieces of code
  module _ (is js : List Instr) {t : State} where
    pub coded : Left tag all s (code (is ++ js)) t → Left tag all s (code is ++ code js) t
    coded a = subst (λ (x : List Item). Left tag all s x t) (map-append instr is js) a

    pub fronted : (rest : List Item) → Left tag all s (code (is ++ js) ++ rest) t → Left tag all s (code is ++ (code js ++ rest)) t
    fronted rest a = subst (λ (x : List Item). Left tag all s x t) (ap (λ (x : List Item). x ++ rest) (map-append instr is js) ∙ append_assoc (code is) (code js) rest) a

  -- one of n in a row
  pub one_of_row : (each : List Instr) (n i : ℕ) {t : State} → i < n → Left tag all s (code (times_over (n - i) each)) t → Left tag all s (code each ++ code (times_over (n - (i + 1)) each)) t
  one_of_row each n i {t} h a =
      let k : n - i ≡ suc (n - (i + 1)) = omega arith in
      coded each (times_over (n - (i + 1)) each) (subst (λ (x : ℕ). Left tag all s (code (times_over x each)) t) k a)

  -- the last piece
  pub closes : {js : List Item} {t : State} {o : Outcome} → Left tag all s js t → o ≡ put tag 0 js t → o ≡ put tag 0 all s
  closes a e = e ∙ a.rest ∙ sym a.whole

  -- nothing is left
  pub closed : {t : State} → Left tag all s [] t → ◌≡◌ {A = Outcome} (Accepting t) (put tag 0 all s)
  unfolding placed
  closed {t} a = let e : placed tag all s ≡ t = (accepts tag 0 [] _ _ a.rest).1 in ap Accepting (sym e) ∙ sym a.whole
