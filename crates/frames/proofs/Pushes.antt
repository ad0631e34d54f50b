-- Instructions of preserved registers, pushed as a mask is walked, and placed. Assumes nothing.
use mathlib.Core.Path.{◌≡◌, refl, ap, ◌∙◌}
use mathlib.Core.Bool.{Bool, true, false, cond}
use mathlib.Core.List.{List, [], ◌∷◌, map}
use Prim.Native.Nat.{ℕ, ◌-◌, ◌≤◌}
use native.Mathlib.Omega.{arith}
use lib.ListN.{length, length-map}
use Rattle.isa.specs.Instr.{Instr}
use Rattle.assembler.specs.State.{State}
use Rattle.assembler.specs.Put.{put}
use Rattle.assembler.specs.Plan.{pushed, plan_fault, plan_items}
use Rattle.assembler.specs.declared.Tail.TheVariants.{Nothing}
use Rattle.assembler.specs.declared.Plan.{Plan}
use Rattle.accesses.specs.Plans.{answer_of, pushes_from, plan_of}
use Rattle.ast.specs.Mask.{preserved, in_mask, chosen, saved, is_preserved}
use Rattle.frame_code.specs.Items.{code}
use Rattle.accesses.proofs.Collect.{AllValid}
use Rattle.accesses.proofs.Placed.{plan_code}

-- the first of the instructions pushed, the others are to come
pub next_pushed : (p : Plan) {q : Plan} {js : List Instr} (i : Instr) (is : List Instr) → js ≡ i ∷ is → q ≡ pushed p (answer_of i) → pushes_from p (map answer_of js) ≡ pushes_from q (map answer_of is)
next_pushed p i is e h = rw (e, h)

-- q with an instruction for each preserved register of the list
unfoldable pub all_pushed : (ℕ → Instr) → Plan → List ℕ → Plan
all_pushed f q rs = pushes_from q (map answer_of (map f (chosen is_preserved rs)))

pub one_more : (f : ℕ → Instr) (q : Plan) (r : ℕ) (rs : List ℕ) → all_pushed f q (r ∷ rs) ≡ all_pushed f (cond (is_preserved r) (pushed q (answer_of (f r))) q) rs
unfolding all_pushed
one_more f q r rs = by (is_preserved r)
  where
    by : (b : Bool) → pushes_from q (map answer_of (map f (cond b (r ∷ chosen is_preserved rs) (chosen is_preserved rs)))) ≡ pushes_from (cond b (pushed q (answer_of (f r))) q) (map answer_of (map f (chosen is_preserved rs)))
    by true = refl
    by false = refl

-- n registers of ds are to come, with whose instructions p is the plan q
abbrev pub Coming : (ℕ → Instr) → (q p : Plan) → (n : ℕ) → (ds : List ℕ) → Type 0
Coming f q p n ds = (n ≡ length (chosen is_preserved ds)) × (q ≡ all_pushed f p ds)

module _ (f : ℕ → Instr) {q : Plan} (p : Plan) {n r : ℕ} {rs ds : List ℕ} (c : Coming f q p n ds) (d : ds ≡ r ∷ rs) where
  pub passed : is_preserved r ≡ false → Coming f q p n rs
  passed e = (rw (d, e) at c.0, c.1 ∙ ap (all_pushed f p) d ∙ one_more f p r rs ∙ rw e)

  pub pushes_one : is_preserved r ≡ true → Coming f q (pushed p (answer_of (f r))) (n - 1) rs
  pushes_one e = let h = rw (d, e) at c.0 in (omega arith, c.1 ∙ ap (all_pushed f p) d ∙ one_more f p r rs ∙ rw e)

pub none_left : (f : ℕ → Instr) (q : Plan) (rs : List ℕ) → length (chosen is_preserved rs) ≡ 0 → all_pushed f q rs ≡ q
unfolding all_pushed
none_left f q rs h = by (chosen is_preserved rs) h
  where
    by : (l : List ℕ) → length l ≡ 0 → pushes_from q (map answer_of (map f l)) ≡ q
    by [] h = refl
    by (x ∷ l) h = absurd (omega arith)

-- ---- a plan of a mask's saves

few : (p : ℕ → Bool) (rs : List ℕ) → length (chosen p rs) ≤ length rs
few p [] = omega arith
few p (r ∷ rs) = by (p r) (few p rs)
  where
    by : (b : Bool) → length (chosen p rs) ≤ length rs → length (cond b (r ∷ chosen p rs) (chosen p rs)) ≤ length (r ∷ rs)
    by true h = omega arith
    by false h = omega arith

pub saved_few : (mask : ℕ) → length (saved mask) ≤ 12
unfolding saved
saved_few mask = few (in_mask mask) preserved

-- placed
pub used_put : (f : ℕ → Instr) (mask : ℕ) (p : Plan) (s : State) → p ≡ plan_of (map f (saved mask)) → AllValid (map f (saved mask)) → put 0 (plan_fault p Nothing) (plan_items p Nothing) s ≡ put 0 0 (code (map f (saved mask))) s
used_put f mask p s e v = plan_code p (map f (saved mask)) e (omega (arith, saved_few mask, length-map (saved mask) f)) v 0 s
