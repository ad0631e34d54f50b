-- Straight code with stores in a row: it stands while they miss it. Assumes nothing.
use mathlib.Core.Path.{◌≡◌, refl, ◌∙◌}
use mathlib.Core.Bool.{Bool, true, false, ◌&&◌}
use mathlib.Core.List.{List, [], ◌∷◌}
use Prim.Native.Nat.{ℕ, ◌+◌, ◌*◌, ◌%◌, ◌^◌, ◌≤◌, ◌<◌}
use native.Mathlib.Omega.{arith}
use borrow.Author.Tests.{ltb-true, ltb-false}
use lib.Dec.{T, ltb}
use lib.ListN.{length, length-map}
use Rattle.isa.specs.Instr.{Instr}
use Rattle.isa.specs.Encode.{encode}
use Rattle.machine.specs.Word.{dist, store8}
use Rattle.machine.specs.Floats.{Floats}
use Rattle.machine.specs.State.{State, next}
use Rattle.machine.specs.Effect.{Effect, write_x, write_f, store, jump, apply, effect, exec}
use Rattle.machine.specs.Step.{CodeAt, words, Among, RunIn}
use Rattle.machine.proofs.Exec.{execs, Fit}
use Rattle.machine.proofs.Memory.{dist_ahead, inside, store_miss}
use Rattle.machine.proofs.Effects.{flows, apply_pc}
use Rattle.machine.proofs.Runs.{step_at, no_step, one_more, wider}
use Rattle.machine.proofs.Straight.{aligned, at_first, at_next, flow}
use Rattle.machine.proofs.Placed.{code_kept}

-- P x: the byte at x may be written
module _ (P : ℕ → Type 0) where
  -- no jump, and a store goes to such bytes
  abbrev pub Lands : Effect → Type 0
  Lands (write_x d v) = Unit {0}
  Lands (write_f d v) = Unit {0}
  Lands (store a v) = (x : ℕ) → x < 2 ^ 64 → dist a x < 8 → P x
  Lands (jump d a) = ⊥

  -- all other bytes are the same
  abbrev pub Same : (ℕ → ℕ) → (ℕ → ℕ) → Type 0
  Same m m' = (x : ℕ) → x < 2 ^ 64 → (P x → ⊥) → m x ≡ m' x

  -- none of the n bytes at a may be written
  abbrev pub Off : ℕ → ℕ → Type 0
  Off a n = (x : ℕ) → x < 2 ^ 64 → dist a x < n → P x → ⊥

  lands_flows : (e : Effect) → Lands e → T (flows e)
  lands_flows (write_x d v) h = tt
  lands_flows (write_f d v) h = tt
  lands_flows (store a v) h = tt
  lands_flows (jump d a) h = absurd h

  apply_same : (e : Effect) (s : State) → Lands e → Same (apply e s).mem s.mem
  unfolding apply
  apply_same (write_x d v) s h x l o = refl
  apply_same (write_f d v) s h x l o = refl
  apply_same (store a v) s h x l o = by (ltb (dist a x) 8) refl
    where
      by : (b : Bool) → ltb (dist a x) 8 ≡ b → store8 s.mem a v x ≡ s.mem x
      by true e = absurd (o (h x l (ltb-true _ _ e)))
      by false e = store_miss s.mem a v x (ltb-false _ _ e)
  apply_same (jump d a) s h x l o = refl

  module _ (Q : Floats) where
    abbrev pub Landing : List Instr → State → Type 0
    Landing [] s = Unit {0}
    Landing (i ∷ is) s = Lands (effect Q i s) × Landing is (exec Q i s)

    pub landing_same : (is : List Instr) (s : State) → Landing is s → Same (execs Q is s).mem s.mem
    landing_same [] s h x l o = refl
    landing_same (i ∷ is) s h x l o = landing_same is (exec Q i s) h.1 x l o ∙ apply_same (effect Q i s) s h.0 x l o

    pub landing_flow : (is : List Instr) (s : State) → Landing is s → T (flow Q is s)
    landing_flow [] s h = tt
    landing_flow (i ∷ is) s h = both (flows (effect Q i s)) _ (lands_flows (effect Q i s) h.0) (landing_flow is (exec Q i s) h.1)
      where
        both : (a b : Bool) → T a → T b → T (a && b)
        both true b p q = q
        both false b p q = p

    -- The run of code whose stores miss it.
    pub landing_run : (is : List Instr) (s : State) → Fit Q is s → Landing is s → 4 * length is ≤ 2 ^ 64 → Off s.pc (4 * length is) → s.pc < 2 ^ 64 → s.pc % 4 ≡ 0 → CodeAt s.mem s.pc (words is) → RunIn Q (Among s.pc (length is)) s (length is) (execs Q is s)
    landing_run [] s w h n o b a c = no_step Q
    landing_run (i ∷ is) s w h n o b a c =
        let e : Effect = effect Q i s in
        let p : (exec Q i s).pc ≡ next s = apply_pc e s (lands_flows e h.0) in
        let k : length (words is) ≡ length is = length-map is encode in
        let f : Off (next s) (4 * length is) = λ x l d. o x l (omega (arith, dist_ahead s.pc 4 x (omega arith))) in
        let r : CodeAt (exec Q i s).mem (next s) (words is) =
        code_kept s.mem (exec Q i s).mem (next s) (words is) (omega arith)
        (λ x l d. apply_same e s h.0 x l (f x l (omega arith)))
        c.1
        in
        one_more Q (at_first s.pc (length is) b) (step_at Q i s w.0 w.1 a c.0)
        (wider Q (λ x m. at_next s.pc (length is) x (rw p at m))
        (landing_run is (exec Q i s) w.2 h.1 (omega arith) (rw p f) (rw p (omega arith)) (rw p (aligned s a)) (rw p r)))

-- ---- stores to a range that doesn't go round

pub lands_in : (lo hi a : ℕ) → lo ≤ a → a + 8 ≤ hi → hi ≤ 2 ^ 64 → (x : ℕ) → x < 2 ^ 64 → dist a x < 8 → (lo ≤ x) × (x < hi)
lands_in lo hi a h l n x b d = let q = inside a 8 x (omega arith) b d in (omega (arith, q.0), omega (arith, q.1))
