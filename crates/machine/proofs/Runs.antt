-- Laws of steps and runs. Assumes nothing.
use mathlib.Core.Path.{◌≡◌, refl, subst, sym, ◌∙◌}
use mathlib.Core.Bool.{Bool, true, false, cond}
use mathlib.Core.Logic.{◌≢◌}
use mathlib.Core.Option.{Option, some, none, bind}
use Prim.Native.Nat.{ℕ, zero, suc, ◌+◌, ◌%◌, ◌<◌}
use native.Mathlib.Nat.{zero-add, suc-add}
use native.Mathlib.Omega.{arith}
use borrow.Author.Tests.{eq-eqb, ne_eqb}
use Rattle.isa.specs.Instr.{Instr}
use Rattle.isa.proofs.Validity.{Valid}
use Rattle.isa.specs.Encode.{encode}
use Rattle.isa.specs.Decode.{decode}
use Rattle.isa.proofs.Laws.{decode_encode}
use Rattle.machine.specs.Word.{load4}
use Rattle.machine.specs.Floats.{Floats}
use Rattle.machine.specs.State.{State, Sound}
use Rattle.machine.specs.Effect.{access, effect, exec}
use Rattle.machine.specs.Step.{fetch, alignment, aligned, executed, step, Run, stop, go, RunIn}
use Rattle.machine.proofs.Exec.{OnEight, run}
use Rattle.machine.proofs.Effects.{apply_sound, effect_fits}

pub fetch_at : (s : State) → s.pc % 4 ≡ 0 → fetch s ≡ some (load4 s.mem s.pc)
unfolding fetch
fetch_at s a = rw (eq-eqb (s.pc % 4) 0 a)

some_inj : (s t : State) → some s ≡ some t → s ≡ t
some_inj s t e = cc

passes : (o : Option ℕ) → OnEight o → aligned o ≡ true
passes none h = refl
passes (some a) h = eq-eqb (a % alignment) 0 h

module _ (Q : Floats) where
  -- A step, where a valid instruction's word stands at a multiple of 4, and what it accesses at one of 8.
  pub step_at : (i : Instr) (s : State) → Valid i → OnEight (access i s) → s.pc % 4 ≡ 0 → load4 s.mem s.pc ≡ encode i → step Q s ≡ some (exec Q i s)
  unfolding step bind
  step_at i s v h a e = rw (fetch_at s a, e, decode_encode i v) (rw (passes (access i s) h))

  -- No step, where pc is no multiple of 4.
  pub step_none : (s : State) → s.pc % 4 ≢ 0 → step Q s ≡ none
  unfolding step fetch bind
  step_none s a = rw (ne_eqb (s.pc % 4) 0 a)

  pub run_of : {s u : State} {n : ℕ} → Run Q s n u → run Q n s ≡ some u
  unfolding run bind
  run_of stop = refl
  run_of (go e r) = rw e (run_of r)

  pub to_run : (n : ℕ) (s u : State) → run Q n s ≡ some u → Run Q s n u
  unfolding run bind
  to_run zero s u e = subst (Run Q s 0) (some_inj s u e) stop
  to_run (suc n) s u e = by (λ t. to_run n t u) (step Q s) refl e
    where
      by : ((t : State) → run Q n t ≡ some u → Run Q t n u) → (o : Option State) → step Q s ≡ o → bind o (run Q n) ≡ some u → Run Q s (suc n) u
      by h (some t) p q = go p (h t q)
      by h none p q = let z : ◌≡◌ {A = ℕ} 0 1 = cc in absurd (omega arith)

  -- ---- runs with pc in C

  module _ {C : ℕ → Type 0} where
    pub no_step : {s : State} → RunIn Q C s 0 s
    no_step = record { runs = stop; inside = λ k u l r. absurd (omega arith) }

    pub one_more : {s t u : State} {n : ℕ} → C s.pc → step Q s ≡ some t → RunIn Q C t n u → RunIn Q C s (suc n) u
    one_more {s} {t} {u} {n} c e r = record { runs = go e r.runs; inside = by }
      where
        by : (k : ℕ) (v : State) → k < suc n → Run Q s k v → C v.pc
        by zero v l stop = c
        by (suc k) v l (go {t = w} d q) = r.inside k v (omega arith) (subst (λ (x : State). Run Q x k v) (some_inj w t (sym d ∙ e)) q)

    onto : {s t u : State} {n k : ℕ} → Run Q s n t → ((j : ℕ) (v : State) → j < n → Run Q s j v → C v.pc) → RunIn Q C t k u → RunIn Q C s (n + k) u
    onto {k = k} stop i q = rw (zero-add k) q
    onto {s = s} {n = suc n} {k = k} (go e r) i q =
        rw (suc-add n k) (one_more (i 0 s (omega arith) stop) e (onto r (λ j v l w. i (suc j) v (omega arith) (go e w)) q))

    pub joined : {s t u : State} {n k : ℕ} → RunIn Q C s n t → RunIn Q C t k u → RunIn Q C s (n + k) u
    joined p q = onto p.runs p.inside q

    pub wider : {C' : ℕ → Type 0} {s t : State} {n : ℕ} → ((x : ℕ) → C x → C' x) → RunIn Q C s n t → RunIn Q C' s n t
    wider h r = record { runs = r.runs; inside = λ k u l q. h u.pc (r.inside k u l q) }

  -- Two runs of one length end in the same state.
  pub run_unique : {s t u : State} {n : ℕ} → Run Q s n t → Run Q s n u → t ≡ u
  run_unique {t = t} {u = u} p q = some_inj t u (sym (run_of p) ∙ run_of q)

  -- A step is what an instruction makes.
  pub step_made : (s t : State) → step Q s ≡ some t → (i : Instr) × (exec Q i s ≡ t)
  unfolding step bind
  step_made s t e = by (bind (fetch s) decode) e
    where
      made : (i : Instr) (b : Bool) → cond b (some (exec Q i s)) none ≡ some t → exec Q i s ≡ t
      made i true q = some_inj (exec Q i s) t q
      made i false q = let z : ◌≡◌ {A = ℕ} 0 1 = cc in absurd (omega arith)

      by : (o : Option Instr) → bind o (executed Q s) ≡ some t → (i : Instr) × (exec Q i s ≡ t)
      by (some i) q = (i, made i (aligned (access i s)) q)
      by none q = let z : ◌≡◌ {A = ℕ} 0 1 = cc in absurd (omega arith)

  pub step_sound : (s t : State) → step Q s ≡ some t → Sound s → Sound t
  step_sound s t e w = let m = step_made s t e in subst Sound m.1 (apply_sound (effect Q m.0 s) s (effect_fits Q m.0 s w) w)

  pub run_sound : {s t : State} {n : ℕ} → Run Q s n t → Sound s → Sound t
  run_sound stop w = w
  run_sound (go {s = s} {t = t} e r) w = run_sound r (step_sound s t e w)
