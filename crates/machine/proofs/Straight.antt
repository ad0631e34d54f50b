-- What straight code does, and a path with jumps. Assumes nothing.
use mathlib.Core.Path.{◌≡◌, refl, sym, subst, ◌∙◌}
use mathlib.Core.Bool.{Bool, true, not, ◌&&◌}
use mathlib.Core.List.{List, [], ◌∷◌, ◌++◌}
use Prim.Native.Nat.{ℕ, zero, suc, ◌+◌, ◌*◌, ◌%◌, ◌^◌, ◌<◌}
use native.Mathlib.Omega.{arith}
use lib.Dec.{T}
use lib.ListN.{length, take, drop}
use Rattle.isa.specs.Instr.{Instr}
use Rattle.isa.specs.Encode.{encode}
use Rattle.machine.specs.Word.{w64, load4}
use Rattle.machine.specs.Floats.{Floats}
use Rattle.machine.specs.State.{State, Sound, next}
use Rattle.machine.specs.Effect.{Effect, effect, exec}
use Rattle.machine.specs.Step.{CodeAt, words, Among, RunIn}
use Rattle.machine.proofs.Exec.{execs, Fit}
use Rattle.machine.specs.Ends.{Ends}
use Rattle.machine.proofs.Effects.{flows, quiet, within, quiet_flows, apply_pc, apply_mem, apply_rm, apply_x}
use Rattle.base.proofs.Bools.{and_l, and_r}
use Rattle.machine.proofs.Runs.{step_at, no_step, one_more, joined, wider}

-- the next word of straight code is at a multiple of 4 too
pub aligned : (s : State) → s.pc % 4 ≡ 0 → next s % 4 ≡ 0
aligned s a = omega arith

-- ---- addresses of words

pub at_first : (a n : ℕ) → a < 2 ^ 64 → Among a (suc n) a
at_first a n h = (0, omega arith, omega arith)

pub at_next : (a n x : ℕ) → Among (w64 (a + 4)) n x → Among a (suc n) x
at_next a n x w = (suc w.0, omega (arith, w.1), w.2 ∙ omega arith)

module _ (Q : Floats) where
  -- ---- code that neither jumps nor stores before its last word

  abbrev pub lead : List Instr → State → Bool
  lead [] s = true
  lead (i ∷ []) s = true
  lead (i ∷ (j ∷ is)) s = quiet (effect Q i s) && lead (j ∷ is) (exec Q i s)

  pub lead_run : (is : List Instr) (s : State) → Fit Q is s → T (lead is s) → s.pc < 2 ^ 64 → s.pc % 4 ≡ 0 → CodeAt s.mem s.pc (words is) → RunIn Q (Among s.pc (length is)) s (length is) (execs Q is s)
  lead_run [] s w h l a c = no_step Q
  lead_run (i ∷ []) s w h l a c = one_more Q (at_first s.pc 0 l) (step_at Q i s w.0 w.1 a c.0) (no_step Q)
  lead_run (i ∷ (j ∷ is)) s w h l a c =
      let e : Effect = effect Q i s in
      let q : T (quiet e) = and_l (quiet e) _ h in
      let p : (exec Q i s).pc ≡ next s = apply_pc e s (quiet_flows e q) in
      one_more Q (at_first s.pc (suc (length is)) l) (step_at Q i s w.0 w.1 a c.0)
      (wider Q (λ x m. at_next s.pc (suc (length is)) x (rw p at m))
      (lead_run (j ∷ is) (exec Q i s) w.2 (and_r (quiet e) _ h) (rw p (omega arith)) (rw p (aligned s a)) (subst (λ (m : ℕ → ℕ). CodeAt m (exec Q i s).pc (words (j ∷ is))) (sym (apply_mem e s q)) (rw p c.1))))

  -- no jump at all
  abbrev pub flow : List Instr → State → Bool
  flow [] s = true
  flow (i ∷ is) s = flows (effect Q i s) && flow is (exec Q i s)

  pub flow_pc : (is : List Instr) (s : State) → T (flow is s) → s.pc < 2 ^ 64 → (execs Q is s).pc ≡ w64 (s.pc + 4 * length is)
  flow_pc [] s h l = omega arith
  flow_pc (i ∷ is) s h l =
      let e : Effect = effect Q i s in
      let p : (exec Q i s).pc ≡ next s = apply_pc e s (and_l (flows e) _ h) in
      let r = flow_pc is (exec Q i s) (and_r (flows e) _ h) (omega arith) in
      omega (arith, r)

  -- ---- a path with jumps: each word where the machine then is

  module _ (C : ℕ → Type 0) where
    abbrev pub Path : List Instr → State → Type 0
    Path [] s = Unit {0}
    Path (i ∷ is) s = C s.pc × (s.pc % 4 ≡ 0) × (load4 s.mem s.pc ≡ encode i) × Path is (exec Q i s)

    pub path_run : (is : List Instr) (s : State) → Fit Q is s → Path is s → RunIn Q C s (length is) (execs Q is s)
    path_run [] s w p = no_step Q
    path_run (i ∷ is) s w p = one_more Q p.0 (step_at Q i s w.0 w.1 p.1 p.2) (path_run is (exec Q i s) w.2 p.3)

  -- ---- one list behind another

  pub execs_append : (is js : List Instr) (s : State) → execs Q (is ++ js) s ≡ execs Q js (execs Q is s)
  execs_append [] js s = refl
  execs_append (i ∷ is) js s = execs_append is js (exec Q i s)

  pub fit_join : (is js : List Instr) (s : State) → Fit Q is s → Fit Q js (execs Q is s) → Fit Q (is ++ js) s
  fit_join [] js s v w = w
  fit_join (i ∷ is) js s v w = (v.0, v.1, fit_join is js (exec Q i s) v.2 w)

  -- in two parts, where `omega` finds the whole too long
  pub fit_cut : (k : ℕ) (is : List Instr) (s : State) → Fit Q (take k is) s → Fit Q (drop k is) (execs Q (take k is) s) → Fit Q is s
  fit_cut zero is s v w = w
  fit_cut (suc k) [] s v w = tt
  fit_cut (suc k) (i ∷ is) s v w = (v.0, v.1, fit_cut k is (exec Q i s) v.2 w)

  -- ---- the rounding mode, and registers outside a set W

  pub execs_rm : (is : List Instr) (s : State) → (execs Q is s).rm ≡ s.rm
  execs_rm [] s = refl
  execs_rm (i ∷ is) s = execs_rm is (exec Q i s) ∙ apply_rm (effect Q i s) s

  module _ (W : ℕ → Bool) where
    abbrev pub keeps : List Instr → State → Bool
    keeps [] s = true
    keeps (i ∷ is) s = within W (effect Q i s) && keeps is (exec Q i s)

    pub execs_x : (is : List Instr) (s : State) (r : ℕ) → T (keeps is s) → T (not (W r)) → (execs Q is s).x r ≡ s.x r
    execs_x [] s r h k = refl
    execs_x (i ∷ is) s r h k =
        let e : Effect = effect Q i s in
        execs_x is (exec Q i s) r (and_r (within W e) _ h) k ∙ apply_x W e s r (and_l (within W e) _ h) k

    -- the test of straight code: no jump, only registers of W, no store but the last
    abbrev pub straight : List Instr → State → Bool
    straight is s = lead is s && (flow is s && keeps is s)

    pub by_straight : (is : List Instr) (s : State) (f' m' : ℕ → ℕ) → Fit Q is s → T (straight is s) → Sound s → s.pc % 4 ≡ 0 → CodeAt s.mem s.pc (words is) → (execs Q is s).f ≡ f' → (execs Q is s).mem ≡ m' → Ends Q W s (length is) (length is) (w64 (s.pc + 4 * length is)) f' m'
    by_straight is s f' m' w h o a c p q =
        let g : T (flow is s && keeps is s) = and_r (lead is s) _ h in
        record {
          end = execs Q is s;
          runs = lead_run is s w (and_l (lead is s) _ h) o.pc a c;
          does =
              record {
                pc = flow_pc is s (and_l (flow is s) _ g) o.pc;
                f = p;
                mem = q;
                rm = execs_rm is s;
                x = λ r k. execs_x is s r (and_r (flow is s) _ g) k;
              };
        }

    pub by_path : (is : List Instr) (s : State) (n a : ℕ) (f' m' : ℕ → ℕ) → Fit Q is s → T (keeps is s) → Path (Among s.pc n) is s → (execs Q is s).pc ≡ a → (execs Q is s).f ≡ f' → (execs Q is s).mem ≡ m' → Ends Q W s n (length is) a f' m'
    by_path is s n a f' m' w h c e p q =
        record {
          end = execs Q is s;
          runs = path_run (Among s.pc n) is s w c;
          does = record { pc = e; f = p; mem = q; rm = execs_rm is s; x = λ r k. execs_x is s r h k };
        }

-- ---- one end behind another

module _ {Q : Floats} {s : State} {i k p : ℕ} {f m : ℕ → ℕ} where
  -- the second from where the first one's words end
  pub ends_join : {W : ℕ → Bool} {j n p' : ℕ} {f' m' : ℕ → ℕ} (e : Ends Q W s i k p f m) → p ≡ w64 (s.pc + 4 * i) → Ends Q W e.end j n p' f' m' → Ends Q W s (i + j) (k + n) p' f' m'
  ends_join {j = j} e h g =
      record {
        end = g.end;
        runs =
            joined Q (wider Q (λ x w. (w.0, omega (arith, w.1), w.2)) e.runs)
            (wider Q (λ x w. (i + w.0, omega (arith, w.1), w.2 ∙ rw (e.does.pc, h) (further s.pc i w.0))) g.runs);
        does =
            record {
              pc = g.does.pc;
              f = g.does.f;
              mem = g.does.mem;
              rm = g.does.rm ∙ e.does.rm;
              x = λ r h. g.does.x r h ∙ e.does.x r h;
            };
      }
    where
      further : (a i k : ℕ) → w64 (w64 (a + 4 * i) + 4 * k) ≡ w64 (a + 4 * (i + k))
      further a i k = omega arith
