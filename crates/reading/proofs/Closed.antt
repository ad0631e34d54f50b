-- Sizes, start, end and regions of a call at closed inputs, and what the terms of a call keep apart.
use mathlib.Core.Path.{◌≡◌, refl}
use mathlib.Core.Bool.{Bool, true, false, not, cond}
use mathlib.Core.List.{List, [], ◌∷◌}
use Prim.Native.Nat.{ℕ, zero, suc, ◌+◌, ◌%◌, ◌^◌, ◌≤◌, ◌<◌}
use native.Mathlib.Omega.{arith}
use lib.Dec.{T, eqb}
use Rattle.isa.specs.Register.{ra, a0, a1, a3}
use Rattle.machine.specs.Word.{w64, upd, load8, store8, dist}
use Rattle.machine.specs.State.{State}
use Rattle.ast.specs.Mask.{saved}
use Rattle.ast.specs.declared.Place.TheVariants.{Mem, Stack}
use Rattle.ast.specs.declared.Frame.TheVariants.{Fast, Indirect}
use Rattle.ast.specs.declared.Head.{Head}
use Rattle.reading.proofs.Start.{fast_terms}
use Rattle.reading.specs.Size.{frame_size, stack_size, whole_size}
use Rattle.reading.specs.Terms.{table_used, table_cell, start_f, start_cells, end_obs, Region, Within, Whole, Clear, frame, block, table, code, Terms}

-- ---- `indirect,16,2,1,1,256` and `fast,0,2,1,0,0`

abbrev H : Head
H = record { frame = Indirect; cap = 16; states = 2; obs = 1; last = 1; mask = 0x100 }

abbrev F : Head
F = record { frame = Fast; cap = 0; states = 2; obs = 1; last = 0; mask = 0 }

-- the byte at each of some addresses, and 0 elsewhere
abbrev bytes : List (ℕ × ℕ) → ℕ → ℕ
bytes [] x = 0
bytes (b ∷ bs) x = cond (eqb x b.0) b.1 (bytes bs x)

-- A table at 0x50000, a2 two: its pointers are 0x60000, 0x61000 and 0x70000. The states are 2.0 and 3.0, and float register r holds r.
abbrev s : State
s =
    record {
      pc = 0x10000;
      x = upd (upd (upd (upd (upd (upd (λ r. 0) 1 0x20000) 2 0x80000) 10 0x30000) 11 0x50000) 12 2) 13 0x40000;
      f = λ r. r;
      rm = 0;
      mem = bytes ((0x50002, 6) ∷ (0x50011, 0x10) ∷ (0x50012, 6) ∷ (0x50022, 7) ∷ (0x60017, 0x40) ∷ (0x61016, 8) ∷ (0x61017, 0x40) ∷ []);
    }

sizes : (frame_size H ≡ 32) × (stack_size H ≡ 144) × (whole_size H 0x50000 ≡ 240)
sizes = (refl, refl, refl)

-- 16 bytes for each pointer, and 8 × a2
cells : (table_cell H s 0 ≡ 0x60010) × (table_cell H s 1 ≡ 0x61010) × (table_cell H s 2 ≡ 0x70010)
unfolding load8 upd
cells = (refl, refl, refl)

-- f10 holds the last state; f8 is in stack cell 4
starts : (start_f H s 2 10 ≡ 0x4008000000000000) × (start_cells H s Mem 0 ≡ 0x4000000000000000) × (start_cells H s Stack 4 ≡ 8)
unfolding load8 upd saved
starts = (refl, refl, refl)

-- states are f10 and up in a fast frame
fast_starts : (start_cells F s Mem 0 ≡ 10) × (start_cells F s Mem 1 ≡ 11)
fast_starts = (refl, refl)

-- the observation cell takes `mem` cell 2, here 3
observes : end_obs H s (record { line = 0; f = s.f; rm = 0; cells = λ q i. i + 1; obs = s.mem }) 0x70010 ≡ 3
unfolding load8 store8 dist upd
observes = refl

blocks : ((block H s).start ≡ 0x30000) × ((block H s).size ≡ 24) × ((table H s).size ≡ 48)
unfolding upd
blocks = (refl, refl, refl)

-- ---- what the terms keep apart

region_ends : (g : Region) → Whole g → 0 < g.size → g.start + g.size ≤ 2 ^ 64
region_ends g w h = w h

module _ (n : ℕ) (t : State) (c : Terms H n t) where
  ra_apart : Within (code n t) (t.x ra) → ⊥
  ra_apart = c.ra_outside

  module _ (u : T (table_used H t)) (k : ℕ) (h : k < 8) where
    state_apart : (i : ℕ) → i < 2 → Within (frame H t) (w64 (table_cell H t i + k)) → ⊥
    state_apart i l = (c.state_cells u i l).0 k h

    obs_apart : Within (table H t) (w64 (table_cell H t 2 + k)) → ⊥
    obs_apart = by (eqb (t.x a1) 0) u ((c.obs_cells u 0 (omega arith)).1.1.1.0 k h)
      where
        by : (b : Bool) → T (not b) → (Within (cond b (block H t) (table H t)) (w64 (table_cell H t 2 + k)) → ⊥) → Within (table H t) (w64 (table_cell H t 2 + k)) → ⊥
        by true v f = absurd v
        by false v f = f

-- ---- multiples of 8

module _ (G : Head) (n : ℕ) (t : State) (c : Terms G n t) where
  -- code at a multiple of 4 alone
  no_fours : t.pc ≡ 0x40000004 → ⊥
  no_fours e = omega (arith, c.code_aligned)

  -- the block, even where no line names a cell of it
  no_odd_block : G.frame ≡ Indirect → t.x a1 ≡ 0 → t.x a0 ≡ 0x50000004 → ⊥
  no_odd_block f z e = omega (arith, e, c.block_aligned (rw (f, z) tt))

  -- parameters, where there are some
  no_odd_params : G.frame ≡ Indirect → G.last ≡ 1 → t.x a3 ≡ 3 → ⊥
  no_odd_params f l e = omega (arith, e, c.params_aligned (rw (f, l) (omega arith)))

-- a fast frame: a0, a1 and a3 count for nothing
abbrev fast : State
fast =
    record {
      pc = 0x10008;
      x = upd (upd (upd (upd (upd (λ r. 0) 1 0x20004) 2 0x80010) 10 5) 11 7) 13 3;
      f = λ r. r;
      rm = 0;
      mem = λ x. 255;
    }

odd_fast_terms : Terms F 200 fast
unfolding upd
odd_fast_terms = fast_terms 0 2 1 0 0 200 fast refl refl (λ w. omega (arith, w.1)) refl (omega arith)

-- `indirect,0,1,0,0,0`: neither block nor parameters, so that a0 and a3 may be odd
abbrev T1 : Head
T1 = record { frame = Indirect; cap = 0; states = 1; obs = 0; last = 0; mask = 0 }

-- the state's pointer is 2^64 - 8 and a2 one: its cell is at 0
abbrev odd : State
odd =
    record {
      pc = 0x10000;
      x = upd (upd (upd (upd (upd (upd (λ r. 0) 1 0x20004) 2 0x80010) 10 5) 11 0x50008) 12 1) 13 3;
      f = λ r. r;
      rm = 0;
      mem = λ x. cond (eqb x 0x50008) 0xf8 255;
    }

odd_terms : Terms T1 200 odd
unfolding upd load8
odd_terms =
    record {
      code_aligned = refl;
      block_aligned = λ h. absurd h;
      table_aligned = λ h. refl;
      cells_aligned = λ h. one;
      params_aligned = λ h. absurd (omega arith);
      ra_aligned = refl;
      ra_outside = λ w. omega (arith, w.1);
      sp_aligned = refl;
      separate = omega arith;
      state_cells = λ h. clear;
      obs_cells = λ h i l. absurd (omega arith);
    }
  where
    one : (i : ℕ) → i < 1 → table_cell T1 odd i % 8 ≡ 0
    one zero h = refl
    one (suc i) h = absurd (omega arith)

    clear : (i : ℕ) → i < 1 → Clear (table_cell T1 odd i) (frame T1 odd ∷ [])
    clear zero h = omega arith
    clear (suc i) h = absurd (omega arith)
