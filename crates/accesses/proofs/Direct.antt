-- What loads and stores do. Assumes nothing.
use mathlib.Core.Path.{◌≡◌, refl, ◌∙◌}
use mathlib.Core.Bool.{Bool, true, false, not, ◌||◌, cond}
use mathlib.Core.List.{List, [], ◌∷◌, ◌++◌}
use Prim.Native.Nat.{ℕ, ◌+◌, ◌%◌, ◌^◌, ◌≤◌, ◌<◌}
use native.Mathlib.Omega.{arith}
use borrow.Author.Tests.{ltb-true, ltb-false}
use lib.Dec.{T, eqb, ltb, leb, leb→le}
use lib.IntN.{pos}
use Rattle.isa.specs.Instr.{Instr, R, I, S, ADD, LD, FLD, FSD}
use Rattle.machine.specs.Word.{w64, upd, load8, store8}
use Rattle.machine.specs.Floats.{Floats}
use Rattle.machine.specs.State.{State, getx, setx, next}
use Rattle.machine.specs.Effect.{effect, apply}
use Rattle.machine.specs.Step.{Among}
use Rattle.machine.proofs.Exec.{execs}
use Rattle.machine.proofs.Effects.{setx_twice}
use Rattle.machine.proofs.Memory.{wrap_r, Apart, load4_store}
use Rattle.machine.proofs.Straight.{aligned, at_first, path_run}
use Rattle.accesses.specs.Code.{li_code, point_code, access_code}
use Rattle.accesses.specs.Fault.{offset_limit, access_fault, last_pair}
use Rattle.accesses.specs.Stands.{Stands, Goes, behind, cell_at, with_t0}
use Rattle.accesses.proofs.Then.{leads, leads_at, through, behind_both}
use Rattle.base.proofs.Bools.{passed}
use Rattle.accesses.proofs.LoadImmediate.{eight, li_runs}

-- ---- what is not refused

pub record Accepted (near : ℕ) (registers : Bool) (base offset : ℕ) : Type 0 where
  pub registers_fit : T registers
  pub within_limit : offset ≤ offset_limit
  pub base_free : ltb offset near ≡ false → eqb base 5 ≡ false

pub accepted : (near : ℕ) (g : Bool) (b n : ℕ) → access_fault near g b n ≡ 0 → Accepted near g b n
accepted near g b n e =
    let p = passed g _ _ e in
    let q = passed (leb n offset_limit) _ _ p.1 in
    let r = passed (ltb n near || not (eqb b 5)) _ _ q.1 in
    record { registers_fit = p.0; within_limit = leb→le _ _ q.0; base_free = free (ltb n near) (eqb b 5) r.0 }
  where
    free : (t u : Bool) → T (t || not u) → t ≡ false → u ≡ false
    free true u h e = let z : ◌≡◌ {A = ℕ} 0 1 = cc in absurd (omega arith)
    free false true h e = absurd h
    free false false h e = refl

-- ---- t0 as base + offset

point_x : (x : ℕ → ℕ) (b n : ℕ) → eqb b 5 ≡ false → setx (setx x 5 (n % 2 ^ 64)) 5 (w64 (setx x 5 (n % 2 ^ 64) 5 + cond (eqb b 0) 0 (setx x 5 (n % 2 ^ 64) b))) ≡ setx x 5 (w64 (cond (eqb b 0) 0 (x b) + n))
unfolding setx upd
point_x x b n e = rw (e, sum (cond (eqb b 0) 0 (x b))) (setx_twice x 5 (n % 2 ^ 64) (w64 (cond (eqb b 0) 0 (x b) + n)))
  where
    sum : (u : ℕ) → w64 (n % 2 ^ 64 + u) ≡ w64 (u + n)
    sum u = omega arith

module _ (Q : Floats) (s : State) (b n : ℕ) (hn : n ≤ offset_limit) where
  abbrev pub pointed : State
  pointed = behind (point_code b n) s (setx s.x 5 (cell_at s b n)) s.f s.mem

  pub point_runs : b < 32 → eqb b 5 ≡ false → Stands (point_code b n) s → Goes Q (point_code b n) s pointed
  unfolding point_code effect apply
  point_runs hb e =
      let is : List Instr = li_code 5 (pos n) in
      let js : List Instr = R ADD 5 5 b ∷ [] in
      let x : ℕ → ℕ = setx s.x 5 (n % 2 ^ 64) in
      through Q is js s x s.f _
      (li_runs 5 (pos n) (omega arith) (omega arith) Q s)
      (leads Q js _ _ (omega arith) tt tt (rw (point_x s.x b n e) (behind_both Q is js s x s.f _ s.f s.mem)))

  -- An access through t0 does what a direct one does: X on registers, and f and m.
  pub access_runs : (near : ℕ) (is : ℕ → ℕ → List Instr) (X : (ℕ → ℕ) → ℕ → ℕ) (f m : ℕ → ℕ) → b < 32 → (ltb n near ≡ false → eqb b 5 ≡ false)
      → (n < near → Stands (is b n) s → Goes Q (is b n) s (behind (is b n) s (X s.x) f m))
      → (near ≤ n → Stands (is 5 0) pointed → Goes Q (is 5 0) pointed (behind (is 5 0) pointed (X pointed.x) f m))
      → Stands (access_code near is b n) s → Goes Q (access_code near is b n) s (behind (access_code near is b n) s (X (with_t0 near b n s)) f m)
  unfolding access_code
  access_runs near is X f m hb h direct far = by (ltb n near) refl
    where
      by : (t : Bool) → ltb n near ≡ t → Stands (cond t (is b n) (point_code b n ++ is 5 0)) s → Goes Q (cond t (is b n) (point_code b n ++ is 5 0)) s (behind (cond t (is b n) (point_code b n ++ is 5 0)) s (X (cond t s.x (setx s.x 5 (cell_at s b n)))) f m)
      by true e o = direct (ltb-true n near e) o
      by false e o =
          let x : ℕ → ℕ = setx s.x 5 (cell_at s b n) in
          through Q (point_code b n) (is 5 0) s x s.f _ (point_runs hb (h e))
          (λ o. rw (← (behind_both Q (point_code b n) (is 5 0) s x s.f (X x) f m)) (far (ltb-false n near e) o))
          o

-- ---- direct accesses, at the address a

module _ (Q : Floats) (s : State) (b n a : ℕ) (hb : b < 32) (hn : n < 2048) (e : w64 (getx s b + n) ≡ a) (h8 : a % 8 ≡ 0) where
  addr : w64 (getx s b + n % 2 ^ 64) ≡ a
  addr = wrap_r (getx s b) n ∙ e

  even : w64 (getx s b + n % 2 ^ 64) % 8 ≡ 0
  even = rw addr h8

  pub load_float_direct : (d : ℕ) → d < 32 → Stands (I FLD d b (pos n) ∷ []) s → Goes Q (I FLD d b (pos n) ∷ []) s (behind (I FLD d b (pos n) ∷ []) s s.x (upd s.f d (load8 s.mem a)) s.mem)
  unfolding effect apply
  load_float_direct d hd = leads_at Q _ s _ (omega arith, even, tt) tt (rw addr)

  pub load_int_direct : (d : ℕ) → d < 32 → Stands (I LD d b (pos n) ∷ []) s → Goes Q (I LD d b (pos n) ∷ []) s (behind (I LD d b (pos n) ∷ []) s (setx s.x d (load8 s.mem a)) s.f s.mem)
  unfolding effect apply
  load_int_direct d hd = leads_at Q _ s _ (omega arith, even, tt) tt (rw addr)

  pub save_float_direct : (d : ℕ) → d < 32 → Stands (S FSD b d (pos n) ∷ []) s → Goes Q (S FSD b d (pos n) ∷ []) s (behind (S FSD b d (pos n) ∷ []) s s.x s.f (store8 s.mem a (s.f d)))
  unfolding effect apply
  save_float_direct d hd = leads_at Q _ s _ (omega arith, even, tt) tt (rw addr)

module _ (Q : Floats) (s : State) (b n a a' : ℕ) (hb : b < 32) (hn : n < 2040) (e : w64 (getx s b + n) ≡ a) (e' : w64 (getx s b + (n + 8)) ≡ a') (d : ℕ) (hd : d ≤ last_pair) (h8 : a % 8 ≡ 0) (h8' : a' % 8 ≡ 0) where
  ahead : w64 (getx s b + (n + 8) % 2 ^ 64) ≡ a'
  ahead = wrap_r (getx s b) (n + 8) ∙ e'

  pair_even : (w64 (getx s b + n % 2 ^ 64) % 8 ≡ 0) × (w64 (getx s b + (n + 8) % 2 ^ 64) % 8 ≡ 0)
  pair_even = (even Q s b n a hb (omega arith) e h8, rw ahead h8')

  pub load_pair_direct : Stands (I FLD d b (pos n) ∷ I FLD (d + 1) b (pos (n + 8)) ∷ []) s → Goes Q (I FLD d b (pos n) ∷ I FLD (d + 1) b (pos (n + 8)) ∷ []) s (behind (I FLD d b (pos n) ∷ I FLD (d + 1) b (pos (n + 8)) ∷ []) s s.x (upd (upd s.f d (load8 s.mem a)) (d + 1) (load8 s.mem a')) s.mem)
  unfolding effect apply
  load_pair_direct = leads_at Q _ s _ (omega (arith, pair_even.0, pair_even.1)) tt (rw (addr Q s b n a hb (omega arith) e h8, ahead, eight s.pc))

  -- the first store misses the second word
  pub save_pair_direct : Apart a 8 (next s) 4 → Stands (S FSD b d (pos n) ∷ S FSD b (d + 1) (pos (n + 8)) ∷ []) s → Goes Q (S FSD b d (pos n) ∷ S FSD b (d + 1) (pos (n + 8)) ∷ []) s (behind (S FSD b d (pos n) ∷ S FSD b (d + 1) (pos (n + 8)) ∷ []) s s.x s.f (store8 (store8 s.mem a (s.f d)) a' (s.f (d + 1))))
  unfolding effect apply
  save_pair_direct h o =
      let is : List Instr = S FSD b d (pos n) ∷ S FSD b (d + 1) (pos (n + 8)) ∷ [] in
      let p = addr Q s b n a hb (omega arith) e h8 in
      let q : execs Q is s ≡ behind is s s.x s.f (store8 (store8 s.mem a (s.f d)) a' (s.f (d + 1))) = rw (p, ahead, eight s.pc) in
      rw (← q)
      (path_run Q (Among s.pc 2) is s (omega (arith, pair_even.0, pair_even.1)) (at_first s.pc 1 o.sound.pc, o.aligned, o.code.0, ((1, omega arith, refl), aligned s o.aligned, rw p (load4_store s.mem a (s.f d) (next s) h ∙ o.code.1.0), tt)))
