-- The float registers that a reading starts with; the terms of a call of a fast frame.
use mathlib.Core.Path.{◌≡◌, refl}
use mathlib.Core.Logic.{◌≢◌}
use mathlib.Core.Bool.{Bool, true, false, cond}
use Prim.Native.Nat.{ℕ, zero, suc, ◌-◌, ◌%◌}
use native.Mathlib.Omega.{arith}
use Rattle.machine.specs.Word.{upd, load8}
use Rattle.machine.specs.State.{State}
use Rattle.machine.proofs.Memory.{upd_other}
use Rattle.ast.specs.declared.Frame.TheVariants.{Fast}
use Rattle.ast.specs.declared.Head.{Head}
use Rattle.reading.specs.Terms.{table_used, table_cell, start_f, Within, Separate, code, regions, Terms}

module _ (H : Head) (s : State) where
  pub start_unused : (n : ℕ) → table_used H s ≡ false → start_f H s n ≡ s.f
  start_unused zero e = refl
  start_unused (suc n) e = rw e

  pub start_last : (n : ℕ) → n ≢ 0 → start_f H s n ≡ cond (table_used H s) (upd s.f 10 (load8 s.mem (table_cell H s (n - 1)))) s.f
  start_last zero h = absurd (h refl)
  start_last (suc n) h = let e : suc n - 1 ≡ n = omega arith in rw e

  pub start_other : (n r : ℕ) → r ≢ 10 → start_f H s n r ≡ s.f r
  start_other zero r h = refl
  start_other (suc n) r h = by (table_used H s)
    where
      by : (b : Bool) → cond b (upd s.f 10 (load8 s.mem (table_cell H s n))) s.f r ≡ s.f r
      by true = upd_other s.f 10 _ r h
      by false = refl

-- a0, a1 and a3 count for nothing in a fast frame
module _ (cap states obs last mask n : ℕ) (s : State) where
  abbrev fast : Head
  fast = record { frame = Fast; cap = cap; states = states; obs = obs; last = last; mask = mask }

  pub fast_terms : s.pc % 8 ≡ 0 → s.x 1 % 4 ≡ 0 → (Within (code n s) (s.x 1) → ⊥) → s.x 2 % 16 ≡ 0 → Separate (regions fast n s Fast) → Terms fast n s
  fast_terms c r o p w =
      record {
        code_aligned = omega (arith, c);
        block_aligned = λ h. absurd h;
        table_aligned = λ h. absurd h;
        cells_aligned = λ h. absurd h;
        params_aligned = λ h. absurd (omega arith);
        ra_aligned = r;
        ra_outside = o;
        sp_aligned = p;
        separate = w;
        state_cells = λ h. absurd h;
        obs_cells = λ h. absurd h;
      }
