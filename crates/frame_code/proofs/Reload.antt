-- Reloads of preserved float registers, and the closing of a frame.
use mathlib.Core.Path.{◌≡◌, refl, sym, ◌∙◌}
use mathlib.Core.Logic.{◌≢◌, ◌⊎◌, inl, inr}
use mathlib.Core.Bool.{Bool, true, false, not, ◌||◌}
use mathlib.Core.List.Memᴰ
use mathlib.Core.List.{List, [], ◌∷◌, ◌++◌, map, Memᴰ}
use Prim.Native.Nat.{ℕ, zero, suc, ◌+◌, ◌*◌, ◌%◌, ◌^◌, ◌≤◌, ◌<◌}
use native.Mathlib.Omega.{arith}
use borrow.Author.Tests.{eqb-true, eqb-false}
use lib.Bits.{xor_self}
use lib.Dec.{T, eqb}
use lib.IntN.{pos}
use lib.ListN.{length, get_or}
use Rattle.isa.specs.Instr.{Instr, R, I, XOR, JALR}
use Rattle.machine.specs.Word.{w64, upd, load8}
use Rattle.machine.specs.Floats.{Floats}
use Rattle.machine.specs.State.{State, setx}
use Rattle.machine.specs.Effect.{address, effect, apply, exec}
use Rattle.machine.proofs.Exec.{execs}
use Rattle.machine.proofs.Memory.{upd_same, upd_other}
use Rattle.machine.proofs.Straight.{fit_cut, execs_x}
use Rattle.machine.proofs.Stores.{Landing}
use Rattle.accesses.specs.Code.{add_stack_code}
use Rattle.ast.specs.declared.Frame.{Frame}
use Rattle.ast.specs.declared.Frame.TheVariants.{Fast, Indirect}
use Rattle.reading.specs.Size.{save_size}
use Rattle.ast.specs.Mask.{save_cell}
use Rattle.frame_code.specs.Items.{mv, kept, loads_from, closing, reload}
use Rattle.frame_code.proofs.Seg.{Seg}

-- ---- float registers from their cells

module _ (Q : Floats) (P : ℕ → Type 0) (X m : ℕ → ℕ) (base : ℕ) (here : X 21 ≡ base) (even : base % 8 ≡ 0) where
  -- what register r gets
  abbrev pub kept_in : ℕ → ℕ
  kept_in r = load8 m (w64 (base + 8 * save_cell r))

  pub record Loaded (rs : List ℕ) (u v : State) : Type 0 where
    pub seg : Seg Q P (map reload rs) u v
    pub x : v.x ≡ X
    pub mem : v.mem ≡ m
    pub keeps : (r : ℕ) → u.f r ≡ kept_in r → v.f r ≡ kept_in r
    pub sets : (r : ℕ) → Memᴰ r rs → v.f r ≡ kept_in r
    pub others : (r : ℕ) → ((q : ℕ) → Memᴰ q rs → q ≢ r) → v.f r ≡ u.f r

  module _ (u : State) (r : ℕ) (p : u.x ≡ X) (q : u.mem ≡ m) where
    one : ((exec Q (reload r) u).f ≡ upd u.f r (kept_in r)) × ((exec Q (reload r) u).x ≡ X) × ((exec Q (reload r) u).mem ≡ m)
    unfolding effect apply
    one = (rw (p, q, here, at), p, q)
      where
        at : (base + 8 * save_cell r % 2 ^ 64) % 2 ^ 64 ≡ (base + 8 * save_cell r) % 2 ^ 64
        at = omega arith

    at_eight : address u 21 (pos (8 * save_cell r)) % 8 ≡ 0
    at_eight = rw (p, here) (omega (arith, even))

    lands : Landing P Q (reload r ∷ []) u
    unfolding effect
    lands = omega arith

  pub loaded : (rs : List ℕ) (u : State) → u.x ≡ X → u.mem ≡ m → ((r : ℕ) → Memᴰ r rs → (r < 32) × (save_cell r < 16)) → (v : State) × Loaded rs u v
  loaded [] u p q g = (
    u,
    record {
      seg = record { fit = tt; lands = tt; end = refl };
      x = p;
      mem = q;
      keeps = λ r e. e;
      sets = λ r k. absurd (Memᴰ.not-nil k);
      others = λ r k. refl;
    },
  )
  loaded (r ∷ rs) u p q g =
      let o = one u r p q in
      let w = g r (Memᴰ.head refl) in
      let t = loaded rs (exec Q (reload r) u) o.1 o.2 (λ k i. g k (Memᴰ.tail i)) in (
        t.0,
        record {
          seg = record { fit = (omega (arith, w), at_eight u r p q, t.1.seg.fit); lands = ((lands u r p q).0, t.1.seg.lands); end = t.1.seg.end };
          x = t.1.x;
          mem = t.1.mem;
          keeps = λ k e. t.1.keeps k (rw o.0 (by k (eqb k r) refl e));
          sets = λ k i. into k (Memᴰ.cases_cons i) o.0 t.1;
          others = λ k n. t.1.others k (λ j i. n j (Memᴰ.tail i)) ∙ rw o.0 (upd_other u.f r (kept_in r) k (λ e. n r (Memᴰ.head refl) (sym e)));
        },
      )
    where
      by : (k : ℕ) (b : Bool) → eqb k r ≡ b → u.f k ≡ kept_in k → upd u.f r (kept_in r) k ≡ kept_in k
      by k true e h = rw (eqb-true k r e) (upd_same u.f r (kept_in r))
      by k false e h = upd_other u.f r (kept_in r) k (eqb-false k r e) ∙ h

      into : (k : ℕ) → (k ≡ r) ⊎ Memᴰ k rs → (exec Q (reload r) u).f ≡ upd u.f r (kept_in r) → {v : State} → Loaded rs (exec Q (reload r) u) v → v.f k ≡ kept_in k
      into k (inl e) o t = rw e (t.keeps r (rw o (upd_same u.f r (kept_in r))))
      into k (inr i) o t = t.sets k i

-- ---- the closing, all but the return

abbrev pub restoring : Frame → List Instr
restoring F = mv 2 8 ∷ (loads_from 0 (kept F) ++ (add_stack_code (save_size F) ++ (R XOR 10 10 10 ∷ [])))

abbrev pub return : Instr
return = I JALR 0 1 (pos 0)

pub closing_is : (F : Frame) → closing F ≡ restoring F ++ (return ∷ [])
unfolding add_stack_code
closing_is Fast = refl
closing_is Indirect = refl

pub closing_length : (F : Frame) → length (restoring F) ≡ 3 + length (kept F)
unfolding add_stack_code
closing_length Fast = refl
closing_length Indirect = refl

-- registers that the closing sets
abbrev pub restored : Frame → ℕ → Bool
restored Fast r = eqb r 1 || (eqb r 2 || (eqb r 8 || (eqb r 9 || (eqb r 10 || eqb r 21))))
restored Indirect r = eqb r 1 || (eqb r 2 || (eqb r 8 || (eqb r 9 || (eqb r 10 || (eqb r 18 || (eqb r 19 || (eqb r 20 || eqb r 21)))))))

pub record Restored (Q : Floats) (P : ℕ → Type 0) (F : Frame) (fp : ℕ) (u v : State) : Type 0 where
  pub seg : Seg Q P (restoring F) u v
  pub regs : (i : ℕ) → i < length (kept F) → v.x (get_or (kept F) i 0) ≡ load8 u.mem (fp + 8 * i)
  pub sp : v.x 2 ≡ w64 (fp + save_size F)
  pub a0 : v.x 10 ≡ 0
  pub x : (r : ℕ) → T (not (restored F r)) → v.x r ≡ u.x r
  pub f : v.f ≡ u.f
  pub mem : v.mem ≡ u.mem

module _ (Q : Floats) (P : ℕ → Type 0) (fp : ℕ) (u : State) (s0 : u.x 8 ≡ fp) (even : fp % 8 ≡ 0) where
  module _ (n : ℕ) (fits : fp + 8 * n ≤ 2 ^ 64) (small : fp < 2 ^ 64) where
    place : (k : ℕ) → k < 8 * n → (w64 (u.x 8 + 0) + k) % 2 ^ 64 ≡ fp + k
    place k h = omega (arith, s0)

  module _ (fits : fp + 8 * 4 ≤ 2 ^ 64) (small : fp < 2 ^ 64) where
    at : (k : ℕ) → k < 32 → (w64 (u.x 8 + 0) + k) % 2 ^ 64 ≡ fp + k
    at k h = place 4 fits small k (omega arith)

    fast_reg : (i : ℕ) → i < 4 → (execs Q (restoring Fast) u).x (get_or (kept Fast) i 0) ≡ load8 u.mem (fp + 8 * i)
    unfolding add_stack_code effect apply setx upd
    fast_reg zero h = rw (at 0 (omega arith))
    fast_reg (suc zero) h = rw (at 8 (omega arith))
    fast_reg (suc (suc zero)) h = rw (at 16 (omega arith))
    fast_reg (suc (suc (suc zero))) h = rw (at 24 (omega arith))
    fast_reg (suc (suc (suc (suc i)))) h = absurd (omega arith)

    pub restores_fast : Restored Q P Fast fp u (execs Q (restoring Fast) u)
    unfolding add_stack_code effect apply setx upd
    restores_fast =
        record {
          seg = record { fit = omega (arith, s0, even); lands = omega arith; end = refl };
          regs = fast_reg;
          sp = omega (arith, s0);
          a0 = xor_self (u.x 10);
          x = λ r h. execs_x Q (restored Fast) (restoring Fast) u r tt h;
          f = refl;
          mem = refl;
        }

  module _ (fits : fp + 8 * 7 ≤ 2 ^ 64) (small : fp < 2 ^ 64) where
    at_seven : (k : ℕ) → k < 56 → (w64 (u.x 8 + 0) + k) % 2 ^ 64 ≡ fp + k
    at_seven k h = place 7 fits small k (omega arith)

    indirect_reg : (i : ℕ) → i < 7 → (execs Q (restoring Indirect) u).x (get_or (kept Indirect) i 0) ≡ load8 u.mem (fp + 8 * i)
    unfolding add_stack_code effect apply setx upd
    indirect_reg zero h = rw (at_seven 0 (omega arith))
    indirect_reg (suc zero) h = rw (at_seven 8 (omega arith))
    indirect_reg (suc (suc zero)) h = rw (at_seven 16 (omega arith))
    indirect_reg (suc (suc (suc zero))) h = rw (at_seven 24 (omega arith))
    indirect_reg (suc (suc (suc (suc zero)))) h = rw (at_seven 32 (omega arith))
    indirect_reg (suc (suc (suc (suc (suc zero))))) h = rw (at_seven 40 (omega arith))
    indirect_reg (suc (suc (suc (suc (suc (suc zero)))))) h = rw (at_seven 48 (omega arith))
    indirect_reg (suc (suc (suc (suc (suc (suc (suc i))))))) h = absurd (omega arith)

    pub restores_indirect : Restored Q P Indirect fp u (execs Q (restoring Indirect) u)
    unfolding add_stack_code effect apply setx upd
    restores_indirect =
        record {
          seg = record { fit = fit_cut Q 5 (restoring Indirect) u (omega (arith, s0, even)) (omega (arith, s0, even)); lands = omega arith; end = refl };
          regs = indirect_reg;
          sp = omega (arith, s0);
          a0 = xor_self (u.x 10);
          x = λ r h. execs_x Q (restored Indirect) (restoring Indirect) u r tt h;
          f = refl;
          mem = refl;
        }
