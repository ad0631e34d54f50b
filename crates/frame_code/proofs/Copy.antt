-- One round of the states' copy: a cell by its pointer, into `mem`.
use mathlib.Core.Path.{◌≡◌, refl, ◌∙◌}
use mathlib.Core.Logic.{◌≢◌}
use mathlib.Core.Bool.{Bool, true, false, not, ◌||◌}
use mathlib.Core.List.{[], ◌∷◌}
use Prim.Native.Nat.{ℕ, zero, suc, ◌+◌, ◌-◌, ◌*◌, ◌%◌, ◌^◌, ◌≤◌, ◌<◌}
use native.Mathlib.Omega.{arith}
use borrow.Author.Tests.{eqb-true, eqb-false, eq-eqb}
use lib.Dec.{T, eqb}
use Rattle.machine.specs.Word.{w64, upd, load8, store8}
use Rattle.machine.specs.Floats.{Floats}
use Rattle.machine.specs.State.{State, setx}
use Rattle.machine.specs.Effect.{effect, apply, exec}
use Rattle.machine.proofs.Exec.{execs, Fit}
use Rattle.machine.proofs.Memory.{wrap_l, dist_ahead, upd_twice, load_store, load8_store, load8_small}
use Rattle.machine.proofs.Effects.{setx_same, setx_other}
use Rattle.machine.proofs.Straight.{execs_x}
use Rattle.machine.proofs.Stores.{Same, Off, Landing, landing_same, lands_in}
use Rattle.frame_code.specs.Items.{mv, state_copy}
use Rattle.frame_code.proofs.Land.{In, landing_wider, load8_same}
use Rattle.frame_code.proofs.Row.{cells_apart}
use Rattle.frame_code.proofs.Seg.{Seg}
use Rattle.frame_code.proofs.Repeat.{Round, Free}

-- t0, t1, t2 and s2
abbrev pub copy_regs : ℕ → Bool
copy_regs r = eqb r 5 || (eqb r 6 || (eqb r 7 || eqb r 18))

pub seven_out : (r : ℕ) → T (not (copy_regs r)) → r ≢ 7
seven_out r h e = by (eqb r 5) (eqb r 6) (eqb r 7) (eqb r 18) (eq-eqb r 7 e) h
  where
    by : (a b c d : Bool) → c ≡ true → T (not (a || (b || (c || d)))) → ⊥
    by true b c d e h = h
    by false true c d e h = h
    by false false c d e h = rw e at h

-- a part of bytes that nothing touches
pub off_part : (P : ℕ → Type 0) (a n i : ℕ) → Off P a n → i + 8 ≤ n → n ≤ 2 ^ 64 → Off P (w64 (a + i)) 8
off_part P a n i o h l x b d = o x b (omega (arith, dist_ahead a i x (omega arith)))

-- P are the bytes that may differ from those at the call, m0. `mem` starts at base and has `most` cells; m1 is memory where the copy starts.
module _ (Q : Floats) (P : ℕ → Type 0) (m0 m1 X F : ℕ → ℕ) (base most tab idx count : ℕ) where
  -- state i, by its pointer
  abbrev pub through : ℕ → ℕ
  through i = w64 (load8 m0 (w64 (tab + 16 * i)) + idx)

  abbrev pub state : ℕ → ℕ
  state i = load8 m0 (through i)

  -- f10 holds the last state
  abbrev pub floats : ℕ → ℕ → ℕ
  floats zero = F
  floats (suc i) = upd F 10 (state i)

  abbrev pub Cells : ℕ → Type 0
  Cells = In base (base + 8 * most)

  -- i states are copied
  pub record Copied (i : ℕ) (u : State) : Type 0 where
    pub t1 : u.x 6 ≡ w64 (base + 8 * i)
    pub s2 : u.x 18 ≡ w64 (tab + 16 * i)
    pub s3 : u.x 19 ≡ w64 idx
    pub x : (r : ℕ) → T (not (copy_regs r)) → u.x r ≡ X r
    pub f : u.f ≡ floats i
    pub cells : (j : ℕ) → j < i → load8 u.mem (base + 8 * j) ≡ state j
    pub same : Same Cells u.mem m1

  pub copied_free : Free Q P state_copy count Copied
  copied_free i u v x f m h =
      record {
        t1 = x 6 (λ e. omega arith) ∙ h.t1;
        s2 = x 18 (λ e. omega arith) ∙ h.s2;
        s3 = x 19 (λ e. omega arith) ∙ h.s3;
        x = λ r k. x r (seven_out r k) ∙ h.x r k;
        f = f ∙ h.f;
        cells = λ j l. rw m (h.cells j l);
        same = rw m h.same;
      }

  module _ (fits : base + 8 * most ≤ 2 ^ 64) (many : count ≤ most) (all_in : (x : ℕ) → Cells x → P x) (before : Same P m1 m0) (bytes : (x : ℕ) → m0 x < 256) (table : Off P tab (16 * most)) (small : 16 * most ≤ 2 ^ 64) (apart : (i : ℕ) → i < count → Off P (through i) 8)
      (even : base % 8 ≡ 0) (table-even : tab % 8 ≡ 0) (states-even : (i : ℕ) → i < count → through i % 8 ≡ 0) (i : ℕ) (u : State) (l : i < count) (h : Copied i u) where
    near : Same P u.mem m0
    near x b o = h.same x b (λ p. o (all_in x p)) ∙ before x b o

    pointer : load8 u.mem (w64 (u.x 18 + 0)) ≡ load8 m0 (w64 (tab + 16 * i))
    pointer =
        let e : w64 (u.x 18 + 0) ≡ w64 (tab + 16 * i) = omega (arith, h.s2) in
        rw e (load8_same P u.mem m0 (w64 (tab + 16 * i)) near (off_part P tab (16 * most) (16 * i) table (omega arith) small))

    reached : w64 (w64 (load8 u.mem (w64 (u.x 18 + 0)) + u.x 19) + 0) ≡ through i
    reached = rw (pointer, h.s3) (at (load8 m0 (w64 (tab + 16 * i))))
      where
        at : (p : ℕ) → w64 (w64 (p + w64 idx) + 0) ≡ w64 (p + idx)
        at p = omega arith

    value : load8 u.mem (w64 (w64 (load8 u.mem (w64 (u.x 18 + 0)) + u.x 19) + 0)) ≡ state i
    value = rw reached (load8_same P u.mem m0 (through i) near (apart i l))

    to : w64 (u.x 6 + 0) ≡ base + 8 * i
    to = omega (arith, h.t1)

    abbrev v : State
    v = execs Q state_copy u

    stored : v.mem ≡ store8 u.mem (base + 8 * i) (state i)
    unfolding effect apply setx upd
    stored = rw (value, to)

    lands : Landing Cells Q state_copy u
    unfolding effect apply setx upd
    lands = (tt, (tt, (tt, (rw to (lands_in base (base + 8 * most) (base + 8 * i) (omega arith) (omega arith) fits), (tt, (tt, tt))))))

    regs : (v.x 6 ≡ w64 (base + 8 * suc i)) × (v.x 18 ≡ w64 (tab + 16 * suc i)) × (v.x 19 ≡ w64 idx) × (v.x 7 ≡ u.x 7)
    unfolding effect apply setx upd
    regs = (rw (h.t1, wrap_l (base + 8 * i) 8) (omega arith), rw (h.s2, wrap_l (tab + 16 * i) 16) (omega arith), h.s3, refl)

    loaded : v.f ≡ upd u.f 10 (state i)
    unfolding effect apply setx upd
    loaded = rw value

    new_f : v.f ≡ floats (suc i)
    new_f = loaded ∙ rw h.f (by i)
      where
        by : (j : ℕ) → upd (floats j) 10 (state i) ≡ upd F 10 (state i)
        by zero = refl
        by (suc j) = upd_twice F 10 (state j) (state i)

    new_cells : (j : ℕ) → j < suc i → load8 v.mem (base + 8 * j) ≡ state j
    new_cells j k = rw stored (by (eqb j i) refl)
      where
        by : (t : Bool) → eqb j i ≡ t → load8 (store8 u.mem (base + 8 * i) (state i)) (base + 8 * j) ≡ state j
        by true e = rw (eqb-true j i e) (load_store u.mem (base + 8 * i) (state i) (load8_small m0 (through i) bytes))
        by false e =
            let n = eqb-false j i e in
            load8_store u.mem (base + 8 * i) (state i) (base + 8 * j) (cells_apart base most j i fits (omega (arith, n)) (omega arith) n)
            ∙ h.cells j (omega (arith, n))

    new_x : (r : ℕ) → T (not (copy_regs r)) → v.x r ≡ u.x r
    unfolding effect apply
    new_x r k = execs_x Q copy_regs state_copy u r tt k

    pointer_even : w64 (u.x 18 + 0) % 8 ≡ 0
    pointer_even = omega (arith, h.s2, table-even)

    cell_even : w64 (u.x 6 + 0) % 8 ≡ 0
    cell_even = rw to (omega (arith, even))

    fit : Fit Q state_copy u
    unfolding effect apply setx upd
    fit = (omega arith, pointer_even, (omega arith, tt, (omega arith, rw reached (states-even i l), (omega arith, cell_even, (omega arith, tt, (omega arith, tt, tt))))))

    pub round : Round Q P state_copy count Copied i u
    round =
        let r = regs in
        record {
          fit = fit;
          lands = landing_wider Cells P all_in Q state_copy u lands;
          inv =
              record {
                t1 = r.0;
                s2 = r.1;
                s3 = r.2;
                x = λ q k. new_x q k ∙ h.x q k;
                f = new_f;
                cells = new_cells;
                same = λ x b o. landing_same Cells Q state_copy u lands x b o ∙ h.same x b o;
              };
          t2 = r.3;
        }

-- t1 is where `mem` starts
module _ (Q : Floats) (P : ℕ → Type 0) (m0 F : ℕ → ℕ) (base most tab idx count : ℕ) (u : State) where
  pub begin : u.x 9 ≡ base → u.x 18 ≡ tab → u.x 19 ≡ w64 idx → u.f ≡ F → base < 2 ^ 64 → tab < 2 ^ 64 → Seg Q P (mv 6 9 ∷ []) u (exec Q (mv 6 9) u) × Copied Q P m0 u.mem u.x F base most tab idx count 0 (exec Q (mv 6 9) u)
  unfolding effect apply
  begin a b c f h l = (
    record { fit = omega arith; lands = omega arith; end = refl },
    record {
      t1 = setx_same u.x 6 _ (λ z. omega arith) ∙ omega (arith, a);
      s2 = setx_other u.x 6 _ 18 (λ z. omega arith) ∙ omega (arith, b);
      s3 = setx_other u.x 6 _ 19 (λ z. omega arith) ∙ c;
      x = λ r k. execs_x Q copy_regs (mv 6 9 ∷ []) u r tt k;
      f = f;
      cells = λ j k. absurd (omega arith);
      same = λ x k o. refl;
    },
  )

  -- the last state
  pub floats_last : (n : ℕ) → n ≢ 0 → floats Q P m0 u.mem u.x F base most tab idx count n ≡ upd F 10 (state Q P m0 u.mem u.x F base most tab idx count (n - 1))
  floats_last zero h = absurd (h refl)
  floats_last (suc n) h = let e : suc n - 1 ≡ n = omega arith in rw e
