-- One round of the observations' copy: a cell of `mem` to an observation cell, by its pointer.
use mathlib.Core.Path.{◌≡◌, refl, ap, ◌∙◌}
use mathlib.Core.Logic.{◌≢◌}
use mathlib.Core.Bool.{Bool, true, false, not, ◌||◌}
use mathlib.Core.List.{List, [], ◌∷◌, ◌++◌}
use Prim.Native.Nat.{ℕ, zero, suc, ◌+◌, ◌*◌, ◌%◌, ◌^◌, ◌≤◌, ◌<◌}
use native.Mathlib.Omega.{arith}
use lib.Dec.{T, eqb}
use lib.IntN.{pos}
use Rattle.isa.specs.Instr.{Instr, R, ADD}
use Rattle.machine.specs.Word.{w64, dist, upd, load8, store8}
use Rattle.machine.specs.Floats.{Floats}
use Rattle.machine.specs.State.{State, setx}
use Rattle.machine.specs.Effect.{effect, apply, exec}
use Rattle.machine.proofs.Exec.{execs, Fit}
use Rattle.machine.proofs.Memory.{wrap_l, upd_other}
use Rattle.machine.proofs.Effects.{setx_same, setx_other}
use Rattle.machine.proofs.Straight.{execs_x}
use Rattle.machine.proofs.Stores.{Same, Off, Landing, landing_same}
use Rattle.accesses.specs.Code.{li_code}
use Rattle.frame_code.specs.Items.{obs_copy}
use Rattle.frame_code.proofs.Land.{load8_same}
use Rattle.frame_code.proofs.Stack.{Quiet, li}
use Rattle.frame_code.proofs.Seg.{Seg, seg_join, seg_quiet}
use Rattle.frame_code.proofs.Repeat.{Round, Free}
use Rattle.frame_code.proofs.Copy.{copy_regs, seven_out}

-- P are the bytes that may be written, m is memory where the copy starts. Pointer i is at tab + 16 i, cell i of `mem` at base + 8 i; the first of
-- the `count` observations has number `skip`.
module _ (Q : Floats) (P : ℕ → Type 0) (m X F : ℕ → ℕ) (base tab idx skip count : ℕ) where
  -- where observation i lies, and what it gets
  abbrev pub goal : ℕ → ℕ
  goal i = w64 (load8 m (w64 (tab + 16 * (skip + i))) + idx)

  abbrev pub result : ℕ → ℕ
  result i = load8 m (w64 (base + 8 * (skip + i)))

  -- memory with i of them given
  abbrev pub given : ℕ → ℕ → ℕ
  given zero = m
  given (suc i) = store8 (given i) (goal i) (result i)

  pub record Given (i : ℕ) (u : State) : Type 0 where
    pub t1 : u.x 6 ≡ w64 (base + 8 * (skip + i))
    pub s2 : u.x 18 ≡ w64 (tab + 16 * (skip + i))
    pub s3 : u.x 19 ≡ w64 idx
    pub x : (r : ℕ) → T (not (copy_regs r)) → u.x r ≡ X r
    pub f : (r : ℕ) → r ≢ 10 → u.f r ≡ F r
    pub mem : u.mem ≡ given i
    pub same : Same P u.mem m

  pub given_free : Free Q P obs_copy count Given
  given_free i u v x f e h =
      record {
        t1 = x 6 (λ z. omega arith) ∙ h.t1;
        s2 = x 18 (λ z. omega arith) ∙ h.s2;
        s3 = x 19 (λ z. omega arith) ∙ h.s3;
        x = λ r k. x r (seven_out r k) ∙ h.x r k;
        f = λ r k. ap (λ (g : ℕ → ℕ). g r) f ∙ h.f r k;
        mem = e ∙ h.mem;
        same = rw e h.same;
      }

  module _ (may : (i x : ℕ) → i < count → dist (goal i) x < 8 → P x) (table : (i : ℕ) → i < count → Off P (w64 (tab + 16 * (skip + i))) 8) (cells : (i : ℕ) → i < count → Off P (w64 (base + 8 * (skip + i))) 8)
      (even : base % 8 ≡ 0) (table-even : tab % 8 ≡ 0) (goals-even : (i : ℕ) → i < count → goal i % 8 ≡ 0) (i : ℕ) (u : State) (l : i < count) (h : Given i u) where
    pointer : w64 (load8 u.mem (w64 (u.x 18 + 0)) + u.x 19) ≡ goal i
    pointer = rw (at, load8_same P u.mem m (w64 (tab + 16 * (skip + i))) h.same (table i l), h.s3) (plain (load8 m (w64 (tab + 16 * (skip + i)))))
      where
        at : w64 (u.x 18 + 0) ≡ w64 (tab + 16 * (skip + i))
        at = omega (arith, h.s2)

        plain : (p : ℕ) → w64 (p + w64 idx) ≡ w64 (p + idx)
        plain p = omega arith

    value : load8 u.mem (w64 (u.x 6 + 0)) ≡ result i
    value =
        let at : w64 (u.x 6 + 0) ≡ w64 (base + 8 * (skip + i)) = omega (arith, h.t1) in
        rw at (load8_same P u.mem m (w64 (base + 8 * (skip + i))) h.same (cells i l))

    to : w64 (goal i + 0) ≡ goal i
    to = omega arith

    abbrev v : State
    v = execs Q obs_copy u

    stored : v.mem ≡ store8 u.mem (goal i) (result i)
    unfolding effect apply setx upd
    stored = rw (value, pointer, to)

    lands : Landing P Q obs_copy u
    unfolding effect apply setx upd
    lands = (tt, (tt, (tt, (rw (pointer, to) (λ x b d. may i x l d), (tt, (tt, tt))))))

    regs : (v.x 6 ≡ w64 (base + 8 * (skip + suc i))) × (v.x 18 ≡ w64 (tab + 16 * (skip + suc i))) × (v.x 19 ≡ w64 idx) × (v.x 7 ≡ u.x 7)
    unfolding effect apply setx upd
    regs = (rw (h.t1, wrap_l (base + 8 * (skip + i)) 8) (omega arith), rw (h.s2, wrap_l (tab + 16 * (skip + i)) 16) (omega arith), h.s3, refl)

    new_f : (r : ℕ) → r ≢ 10 → v.f r ≡ u.f r
    unfolding effect apply
    new_f r k = upd_other u.f 10 _ r k

    new_x : (r : ℕ) → T (not (copy_regs r)) → v.x r ≡ u.x r
    unfolding effect apply
    new_x r k = execs_x Q copy_regs obs_copy u r tt k

    pointer_even : w64 (u.x 18 + 0) % 8 ≡ 0
    pointer_even = omega (arith, h.s2, table-even)

    cell_even : w64 (u.x 6 + 0) % 8 ≡ 0
    cell_even = omega (arith, h.t1, even)

    fit : Fit Q obs_copy u
    unfolding effect apply setx upd
    fit = (omega arith, pointer_even, (omega arith, tt, (omega arith, cell_even, (omega arith, rw (pointer, to) (goals-even i l), (omega arith, tt, (omega arith, tt, tt))))))

    pub give : Round Q P obs_copy count Given i u
    give =
        let r = regs in
        record {
          fit = fit;
          lands = lands;
          inv =
              record {
                t1 = r.0;
                s2 = r.1;
                s3 = r.2;
                x = λ q k. new_x q k ∙ h.x q k;
                f = λ q k. new_f q k ∙ h.f q k;
                mem = stored ∙ rw h.mem;
                same = λ x b o. landing_same P Q obs_copy u lands x b o ∙ h.same x b o;
              };
          t2 = r.3;
        }

-- t1 is where the first observation's cell of `mem` is
module _ (Q : Floats) (P : ℕ → Type 0) (base tab idx skip count : ℕ) (u : State) where
  abbrev pub given_first : List Instr
  given_first = li_code 6 (pos (8 * skip)) ++ (R ADD 6 6 9 ∷ [])

  pub given_begin : u.x 9 ≡ base → u.x 18 ≡ w64 (tab + 16 * skip) → u.x 19 ≡ w64 idx → skip ≤ 4096 → (v : State) × Seg Q P given_first u v × Given Q P u.mem u.x u.f base tab idx skip count 0 v
  unfolding effect apply
  given_begin a b c l = (
    exec Q (R ADD 6 6 9) w,
    seg_join (seg_quiet q.0) (record { fit = omega arith; lands = omega arith; end = refl }),
    record {
      t1 = setx_same w.x 6 _ (λ z. omega arith) ∙ rw (q.1, q.0.x 9 tt, a) (omega arith);
      s2 = setx_other w.x 6 _ 18 (λ z. omega arith) ∙ q.0.x 18 tt ∙ b ∙ ap (λ (k : ℕ). k % 2 ^ 64) (omega arith);
      s3 = setx_other w.x 6 _ 19 (λ z. omega arith) ∙ q.0.x 19 tt ∙ c;
      x = λ r k. execs_x Q copy_regs (R ADD 6 6 9 ∷ []) w r tt k ∙ q.0.x r (six_out r k);
      f = λ r k. ap (λ (g : ℕ → ℕ). g r) q.0.f;
      mem = q.0.mem;
      same = λ x k o. ap (λ (g : ℕ → ℕ). g x) q.0.mem;
    },
  )
    where
      q : Quiet Q (λ r. eqb r 6) (li_code 6 (pos (8 * skip))) u × ((execs Q (li_code 6 (pos (8 * skip))) u).x 6 ≡ 8 * skip % 2 ^ 64)
      q = li Q 6 (pos (8 * skip)) u (omega arith) (λ z. omega arith) (omega arith)

      w : State
      w = execs Q (li_code 6 (pos (8 * skip))) u

      six_out : (r : ℕ) → T (not (copy_regs r)) → T (not (eqb r 6))
      six_out r = by (eqb r 5) (eqb r 6) (eqb r 7) (eqb r 18)
        where
          by : (a b c d : Bool) → T (not (a || (b || (c || d)))) → T (not b)
          by true b c d h = absurd h
          by false true c d h = h
          by false false c d h = tt
