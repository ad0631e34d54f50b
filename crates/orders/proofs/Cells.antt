-- Orders that read or write a cell do what they mean. Assumes nothing.
use mathlib.Core.Path.{◌≡◌, refl, ◌∙◌}
use mathlib.Core.Logic.{◌≢◌}
use mathlib.Core.Bool.{Bool, true, false, not, ◌||◌, cond}
use mathlib.Core.List.{List, [], ◌∷◌, ◌++◌, map}
use Prim.Native.Nat.{ℕ, ◌+◌, ◌*◌, ◌≤◌, ◌<◌}
use native.Mathlib.Omega.{arith}
use borrow.Author.Tests.{lt-ltb, le-leb}
use lib.Dec.{T, eqb, ltb}
use lib.ListN.{length, length-append}
use Rattle.isa.specs.Instr.{Instr}
use Rattle.machine.specs.Word.{w64, upd, store8}
use Rattle.machine.specs.Floats.{Floats}
use Rattle.machine.specs.State.{State, setx}
use Rattle.machine.specs.Effect.{effect, apply}
use Rattle.machine.specs.Ends.{temporary, Ends}
use Rattle.machine.proofs.Effects.{setx_other}
use Rattle.machine.proofs.Memory.{load8_small}
use Rattle.machine.proofs.Straight.{by_straight, ends_join}
use Rattle.ast.specs.declared.Place.{Place}
use Rattle.ast.specs.declared.Place.TheVariants.{Mem, Stack, Param}
use Rattle.assembler.specs.Item.{instr}
use Rattle.accesses.specs.Code.{near, load_float_code, save_float_code, load_int_code}
use Rattle.accesses.specs.Fault.{offset_limit, one_fault}
use Rattle.accesses.specs.Stands.{Stands, Goes, behind, cell_at, Accessible, with_t0}
use Rattle.accesses.proofs.Then.{fits, stands_first, stands_second}
use Rattle.accesses.proofs.Runs.{load_float_runs, save_float_runs, load_int_runs}
use Rattle.reading.specs.Meaning.{on, choose}
use Rattle.orders.specs.Code.{base, choose_code}
use Rattle.orders.specs.Does.{At, Done, cell, cell_value}
use Rattle.orders.proofs.Bits.{chosen}
use Rattle.orders.proofs.Items.{at_stands, goes_on}

-- ---- a cell's access is accepted

base_fits : (p : Place) → (base p < 32) × (eqb (base p) 5 ≡ false)
base_fits Mem = (omega arith, refl)
base_fits Stack = (omega arith, refl)
base_fits Param = (omega arith, refl)

pub cell_accepted : (d : ℕ) (p : Place) (n : ℕ) → d < 32 → n ≤ offset_limit → one_fault d (base p) n ≡ 0
cell_accepted d p n hd hn =
    let b = base_fits p in
    rw (lt-ltb d 32 hd, lt-ltb (base p) 32 b.0, le-leb n offset_limit hn, b.1) (by (ltb n near))
  where
    by : (t : Bool) → ◌≡◌ {A = ℕ} (cond (t || true) 0 10) 0
    by true = refl
    by false = refl

-- ---- registers but t0, t1 and t2

t0_temporary : (r : ℕ) → T (not (temporary r)) → r ≢ 5
unfolding temporary
t0_temporary r h e = rw e at h

t0_kept : (limit b n : ℕ) (s : State) (r : ℕ) → T (not (temporary r)) → with_t0 limit b n s r ≡ s.x r
t0_kept limit b n s r h = by (ltb n limit)
  where
    by : (t : Bool) → cond t s.x (setx s.x 5 (cell_at s b n)) r ≡ s.x r
    by true = refl
    by false = setx_other s.x 5 (cell_at s b n) r (t0_temporary r h)

-- a run to a state whose registers are kept so far
kept_ends : (Q : Floats) (s : State) (is : List Instr) (x f m : ℕ → ℕ) → ((r : ℕ) → T (not (temporary r)) → x r ≡ s.x r) → Goes Q is s (behind is s x f m) → Ends Q temporary s (length is) (length is) (w64 (s.pc + 4 * length is)) f m
kept_ends Q s is x f m h r =
    record { end = behind is s x f m; runs = r; does = record { pc = refl; f = refl; mem = refl; rm = refl; x = h } }

module _ (places : ℕ → ℕ) (start here : ℕ) (s : State) (Q : Floats) where
  pub load_does : (d : ℕ) (p : Place) (i : ℕ) → d < 32 → 8 * i ≤ offset_limit → Accessible (cell s p i ∷ []) → At places start here (map instr (load_float_code d (base p) (8 * i))) s → Done places start Q here (map instr (load_float_code d (base p) (8 * i))) s (upd s.f d (cell_value s p i)) s.mem on
  load_does d p i hd hi c o =
      let is : List Instr = load_float_code d (base p) (8 * i) in
      goes_on places start here s is o Q _ _
      (kept_ends Q s is (with_t0 near (base p) (8 * i) s) _ _ (t0_kept near (base p) (8 * i) s)
      (load_float_runs d (base p) (8 * i) (cell_accepted d p (8 * i) hd hi) Q s c (at_stands places start here s is o)))

  pub save_does : (d : ℕ) (p : Place) (i : ℕ) → d < 32 → 8 * i ≤ offset_limit → Accessible (cell s p i ∷ []) → At places start here (map instr (save_float_code d (base p) (8 * i))) s → Done places start Q here (map instr (save_float_code d (base p) (8 * i))) s s.f (store8 s.mem (cell s p i) (s.f d)) on
  save_does d p i hd hi c o =
      let is : List Instr = save_float_code d (base p) (8 * i) in
      goes_on places start here s is o Q _ _
      (kept_ends Q s is (with_t0 near (base p) (8 * i) s) _ _ (t0_kept near (base p) (8 * i) s)
      (save_float_runs d (base p) (8 * i) (cell_accepted d p (8 * i) hd hi) Q s c (at_stands places start here s is o)))

  -- one list behind another, the first to a state that is known
  both_end : (is js : List Instr) (x f f' m' : ℕ → ℕ) → ((r : ℕ) → T (not (temporary r)) → x r ≡ s.x r) → Goes Q is s (behind is s x f s.mem) → Ends Q temporary (behind is s x f s.mem) (length js) (length js) (w64 ((behind is s x f s.mem).pc + 4 * length js)) f' m'
      → Ends Q temporary s (length (is ++ js)) (length (is ++ js)) (w64 (s.pc + 4 * length (is ++ js))) f' m'
  unfolding kept_ends
  both_end is js x f f' m' h r e =
      let n = length-append is js in
      let p : w64 (w64 (s.pc + 4 * length is) + 4 * length js) ≡ w64 (s.pc + 4 * (length is + length js)) = omega arith in
      rw (n, ← p) (ends_join (kept_ends Q s is x f s.mem h r) refl e)

  -- the cell into t0, and from there the choice
  pub ifelse_does : (d a b i : ℕ) → d < 32 → a < 32 → b < 32 → 8 * i ≤ offset_limit → Accessible (cell s Stack i ∷ [])
      → At places start here (map instr (load_int_code 5 (base Stack) (8 * i) ++ choose_code d a b)) s → Done places start Q here (map instr (load_int_code 5 (base Stack) (8 * i) ++ choose_code d a b)) s (upd s.f d (choose 64 (cell_value s Stack i) (s.f a) (s.f b))) s.mem on
  unfolding effect apply setx upd temporary
  ifelse_does d a b i hd ha hb hi c o =
      let is : List Instr = load_int_code 5 (base Stack) (8 * i) in
      let js : List Instr = choose_code d a b in
      let v : ℕ = cell_value s Stack i in
      let w : ℕ → ℕ = with_t0 near (base Stack) (8 * i) s in
      let x : ℕ → ℕ = setx w 5 v in
      let st : Stands (is ++ js) s = at_stands places start here s (is ++ js) o in
      let r = load_int_runs 5 (base Stack) (8 * i) (cell_accepted 5 Stack (8 * i) (omega arith) hi) Q s c (stands_first Q is js s x s.f st) in
      let u : Stands js (behind is s x s.f s.mem) = stands_second Q is js s x s.f st r in
      let e = chosen 64 v (s.f a) (s.f b) (load8_small s.mem (cell s Stack i) o.sound.mem) (o.sound.f a) (o.sound.f b) in
      goes_on places start here s (is ++ js) o Q _ _
      (both_end is js x s.f _ _
      (λ k h. setx_other w 5 v k (t0_temporary k h) ∙ t0_kept near (base Stack) (8 * i) s k h)
      r
      (by_straight Q temporary js _ _ _ (fits Q js (behind is s x s.f s.mem) (omega arith) tt) tt u.sound u.aligned u.code (rw e) refl))
