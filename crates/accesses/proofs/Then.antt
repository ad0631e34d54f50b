-- One list of instructions behind another, from states that stand at their words. Assumes nothing.
use mathlib.Core.Path.{◌≡◌, ◌∙◌}
use mathlib.Core.Bool.{Bool, true, false, ◌&&◌}
use mathlib.Core.Option.{Option, some, none}
use mathlib.Core.List.{List, [], ◌∷◌, ◌++◌, map-append}
use Prim.Native.Nat.{ℕ, ◌+◌, ◌*◌, ◌%◌}
use native.Mathlib.Omega.{arith}
use lib.Dec.{T}
use lib.ListN.{length, length-append, length-map}
use Rattle.isa.specs.Instr.{Instr}
use Rattle.isa.specs.Encode.{encode}
use Rattle.machine.specs.Word.{w64}
use Rattle.machine.specs.Floats.{Floats}
use Rattle.machine.specs.State.{State}
use Rattle.machine.specs.Effect.{access, exec}
use Rattle.machine.specs.Step.{words}
use Rattle.machine.proofs.Exec.{OnEight, execs, Fit}
use Rattle.machine.proofs.Runs.{joined, wider, run_sound}
use Rattle.machine.proofs.Straight.{lead, lead_run}
use Rattle.machine.proofs.Placed.{Valids, code_left, code_right}
use Rattle.base.proofs.Bools.{and_l, and_r}
use Rattle.accesses.specs.Stands.{Stands, Goes, behind}

pub valids_join : (is js : List Instr) → Valids is → Valids js → Valids (is ++ js)
valids_join [] js v w = w
valids_join (i ∷ is) js v w = (v.0, valids_join is js v.1 w)

-- nothing is accessed
abbrev pub idle : Option ℕ → Bool
idle none = true
idle (some a) = false

idle_fits : (o : Option ℕ) → T (idle o) → OnEight o
idle_fits none h = tt
idle_fits (some a) h = absurd h

module _ (Q : Floats) where
  -- no load and no store
  abbrev pub silent : List Instr → State → Bool
  silent [] s = true
  silent (i ∷ is) s = idle (access i s) && silent is (exec Q i s)

  -- valid instructions without an access ask nothing of the state
  pub fits : (is : List Instr) (s : State) → Valids is → T (silent is s) → Fit Q is s
  fits [] s v h = tt
  fits (i ∷ is) s v h =
      (v.0, idle_fits (access i s) (and_l (idle (access i s)) _ h), fits is (exec Q i s) v.1 (and_r (idle (access i s)) _ h))

  -- code that neither jumps nor stores before its last word
  pub leads_at : (is : List Instr) (s t : State) → Fit Q is s → T (lead Q is s) → execs Q is s ≡ t → Stands is s → Goes Q is s t
  leads_at is s t v h e o = rw (← e) (lead_run Q is s v h o.sound.pc o.aligned o.code)

  pub leads : (is : List Instr) (s t : State) → Valids is → T (silent is s) → T (lead Q is s) → execs Q is s ≡ t → Stands is s → Goes Q is s t
  leads is s t v k = leads_at is s t (fits is s v k)

  plain : (p a b : ℕ) → w64 (w64 (p + 4 * a) + 4 * b) ≡ w64 (p + 4 * (a + b))
  plain p a b = omega arith

  module _ (is js : List Instr) (s : State) (x f : ℕ → ℕ) where
    abbrev half : State
    half = behind is s x f s.mem

    -- what stands behind the first list
    pub stands_first : Stands (is ++ js) s → Stands is s
    stands_first o =
        record {
          sound = o.sound;
          aligned = o.aligned;
          code = code_left s.mem s.pc (words is) (words js) (rw (map-append encode is js) at o.code);
        }

    pub stands_second : Stands (is ++ js) s → Goes Q is s half → Stands js half
    stands_second o r =
        record {
          sound = run_sound Q r.runs o.sound;
          aligned = let a : s.pc % 4 ≡ 0 = o.aligned in omega arith;
          code =
              rw (length-map is encode) at (code_right s.mem s.pc (words is) (words js) o.sound.pc (rw (map-append encode is js) at o.code));
        }

    -- A run through both lists.
    pub through : (t : State) → (Stands is s → Goes Q is s half) → (Stands js half → Goes Q js half t) → Stands (is ++ js) s → Goes Q (is ++ js) s t
    through t p q o =
        let r : Goes Q is s half = p (stands_first o) in
        rw (length-append is js)
        (joined Q (wider Q (λ x w. (w.0, omega (arith, w.1), w.2)) r)
        (wider Q (λ x w. (length is + w.0, omega (arith, w.1), w.2 ∙ plain s.pc (length is) w.0)) (q (stands_second o r))))

    -- pc behind both
    pub behind_both : (x' f' m' : ℕ → ℕ) → behind js half x' f' m' ≡ behind (is ++ js) s x' f' m'
    behind_both x' f' m' =
        let e : w64 (half.pc + 4 * length js) ≡ w64 (s.pc + 4 * length (is ++ js)) = rw (length-append is js) (plain s.pc (length is) (length js)) in
        λ i. record { pc = e i; x = x'; f = f'; rm = s.rm; mem = m' }
