-- Where code, frame, cells and table lie under the terms of a call, over both frames.
use mathlib.Core.Path.{◌≡◌, refl, sym, subst, fun_ext}
use mathlib.Core.Bool.{Bool, true, false, not, ◌&&◌}
use mathlib.Core.List.{[], ◌∷◌}
use Prim.Native.Nat.{ℕ, zero, suc, ◌+◌, ◌-◌, ◌*◌, ◌%◌, ◌^◌, ◌≤◌, ◌<◌}
use native.Mathlib.Omega.{arith}
use lib.Dec.{T, eqb, leb, leb→le}
use Rattle.ast.specs.Count.{cells, cell_count}
use Rattle.machine.specs.Word.{w64, dist}
use Rattle.machine.specs.State.{State, Sound}
use Rattle.machine.proofs.Memory.{dist_back}
use Rattle.base.proofs.Bools.{and_l, and_r}
use Rattle.ast.specs.declared.Place.{Place}
use Rattle.ast.specs.declared.Place.TheVariants.{Mem, Stack, Param}
use Rattle.ast.specs.declared.Frame.{Frame}
use Rattle.ast.specs.declared.Frame.TheVariants.{Fast, Indirect}
use Rattle.ast.specs.declared.Head.{Head}
use Rattle.ast.specs.Align.{align16}
use Rattle.reading.specs.Size.{holds_mem, stack_size, below_saves}
use Rattle.ast.specs.Counts.{epilogue_holds}
use Rattle.reading.specs.Plain.{same_place}
use Rattle.reading.specs.Terms.{table_used, frame_bytes, bottom, base, table_cell, Within, code, frame, table, block, params, Separate, Terms}
use Rattle.call.proofs.Cells.{Inside, Rooms}

pub record Lies (H : Head) (len : ℕ) (s : State) : Type 0 where
  -- the frame, from its bottom up
  pub top : bottom H s + frame_bytes H s ≤ 2 ^ 64
  pub sp : s.x 2 ≡ w64 (bottom H s + frame_bytes H s)
  pub frame_aligned : bottom H s % 16 ≡ 0
  pub code_top : s.pc + len ≤ 2 ^ 64
  pub code_frame : (x : ℕ) → Within (code len s) x → Within (frame H s) x → ⊥
  -- the cells
  pub mem_base : T (holds_mem H.frame (s.x 11)) → base H s Mem ≡ bottom H s + stack_size H
  pub rooms : Rooms (base H s) (cell_count H)
  pub bases_aligned : (q : Place) → 0 < cell_count H q → base H s q % 8 ≡ 0
  pub off_code : (q : Place) (x : ℕ) → Inside (base H s q) (cell_count H q) x → s.pc ≤ x → x < s.pc + len → ⊥
  -- the places of ra and other whole-number registers are no cells
  pub off_places : (q : Place) (x : ℕ) → Inside (base H s q) (cell_count H q) x → bottom H s + below_saves H (s.x 11) ≤ x → x < bottom H s + frame_bytes H s → ⊥
  -- a cell in the frame, or in one of the blocks
  pub mem_in : T (holds_mem H.frame (s.x 11)) → (x : ℕ) → Inside (base H s Mem) (cell_count H Mem) x → Within (frame H s) x
  pub stack_in : (x : ℕ) → Inside (base H s Stack) (cell_count H Stack) x → Within (frame H s) x
  pub param_frame : (x : ℕ) → Inside (base H s Param) (cell_count H Param) x → Within (frame H s) x → ⊥
  -- the table
  pub table_top : T (table_used H s) → s.x 11 + 16 * cells H ≤ 2 ^ 64
  pub table_frame : T (table_used H s) → (x : ℕ) → Within (table H s) x → Within (frame H s) x → ⊥
  pub off_table : T (table_used H s) → (q : Place) (x : ℕ) → Inside (base H s q) (cell_count H q) x → Within (table H s) x → ⊥
  -- observation cells
  pub obs_off : T (table_used H s) → (i : ℕ) → i < H.obs → (x : ℕ) → x < 2 ^ 64 → dist (table_cell H s (H.states + i)) x < 8 → (Within (code len s) x → ⊥) × (Within (frame H s) x → ⊥) × (Within (table H s) x → ⊥) × (Inside (base H s Param) (cell_count H Param) x → ⊥)
  -- the block
  pub block_top : T (not (holds_mem H.frame (s.x 11))) → s.x 10 + 8 * cells H ≤ 2 ^ 64
  pub block_frame : T (not (holds_mem H.frame (s.x 11))) → (x : ℕ) → Within (block H s) x → Within (frame H s) x → ⊥

-- sp and the bottom
sp_back : (x n : ℕ) → x < 2 ^ 64 → n ≤ 2 ^ 64 → x ≡ w64 (w64 (x + (2 ^ 64 - n)) + n)
sp_back x n h l = omega arith

bottom_even : (x n : ℕ) → x % 16 ≡ 0 → n % 16 ≡ 0 → n ≤ 2 ^ 64 → w64 (x + (2 ^ 64 - n)) % 16 ≡ 0
bottom_even x n h k l = omega arith

above_even : (b n : ℕ) → b % 16 ≡ 0 → n % 16 ≡ 0 → w64 (b + n) % 8 ≡ 0
above_even b n h k = omega arith

half_even : (b : ℕ) → b % 16 ≡ 0 → b % 8 ≡ 0
half_even b h = omega arith

-- a region of 0 bytes ends somewhere too
ending : (a n : ℕ) → a < 2 ^ 64 → (0 < n → a + n ≤ 2 ^ 64) → a + n ≤ 2 ^ 64
ending a zero h k = omega arith
ending a (suc n) h k = k (omega arith)

-- sizes hold their cells
sized : (n : ℕ) → n ≤ 4096 → (8 * n ≤ align16 (8 * n)) × (0 < align16 (8 * n)) × (align16 (8 * n) ≤ 40000) × (align16 (8 * n) % 16 ≡ 0)
sized n h = omega arith

-- ---- a frame that starts at b: ss bytes with ns cells of `stack`, fs bytes with nm cells of `mem`, sv bytes of places

module _ (b ss fs sv nm ns : ℕ) (hm : 8 * nm ≤ fs) (hs : 8 * ns ≤ ss) (top : b + (ss + fs + sv) ≤ 2 ^ 64) where
  stack_fits : b + 8 * ns ≤ 2 ^ 64
  stack_fits = omega arith

  stack_frame : (x : ℕ) → Inside b ns x → (b ≤ x) × (x < b + (ss + fs + sv))
  stack_frame x u = omega arith

  stack_places : (x : ℕ) → Inside b ns x → b + (ss + fs) ≤ x → ⊥
  stack_places x u v = omega arith

  module _ (some : 0 < fs) where
    mem_at : w64 (b + ss) ≡ b + ss
    mem_at = omega arith

    mem_fits : w64 (b + ss) + 8 * nm ≤ 2 ^ 64
    mem_fits = rw mem_at (omega arith)

    mem_frame : (x : ℕ) → Inside (w64 (b + ss)) nm x → (b ≤ x) × (x < b + (ss + fs + sv))
    mem_frame x u = let v = rw mem_at at u in (omega (arith, v.0), omega (arith, v.1))

    mem_stack : (x : ℕ) → Inside (w64 (b + ss)) nm x → Inside b ns x → ⊥
    mem_stack x u v = let w = rw mem_at at u in omega (arith, w.0, v.1)

    mem_places : (x : ℕ) → Inside (w64 (b + ss)) nm x → b + (ss + fs) ≤ x → ⊥
    mem_places x u v = let w = rw mem_at at u in omega (arith, w.1)

rooms_of : (A n : Place → ℕ) → ((q : Place) → 0 < n q → A q + 8 * n q ≤ 2 ^ 64) → ((x : ℕ) → Inside (A Mem) (n Mem) x → Inside (A Stack) (n Stack) x → ⊥) → ((x : ℕ) → Inside (A Mem) (n Mem) x → Inside (A Param) (n Param) x → ⊥) → ((x : ℕ) → Inside (A Stack) (n Stack) x → Inside (A Param) (n Param) x → ⊥) → Rooms A n
rooms_of A n f ms mp sp = record { fits = f; apart = by }
  where
    by : (p q : Place) (x : ℕ) → Inside (A p) (n p) x → Inside (A q) (n q) x → same_place p q ≡ true
    by Mem Mem x u v = refl
    by Mem Stack x u v = absurd (ms x u v)
    by Mem Param x u v = absurd (mp x u v)
    by Stack Mem x u v = absurd (ms x v u)
    by Stack Stack x u v = refl
    by Stack Param x u v = absurd (sp x u v)
    by Param Mem x u v = absurd (mp x v u)
    by Param Stack x u v = absurd (sp x v u)
    by Param Param x u v = refl

-- no byte of 0 cells
none_inside : (a x : ℕ) → Inside a 0 x → ⊥
none_inside a x u = omega arith

module _ (cap states obs last mask : ℕ) (len : ℕ) (s : State) (o : Sound s) where
  module _ (F : Frame) where
    abbrev head : Head
    head = record { frame = F; cap = cap; states = states; obs = obs; last = last; mask = mask }

  -- counts at most 4,096
  few : (F : Frame) → T (epilogue_holds (head F)) → (cap ≤ 4096) × (states + obs ≤ 4096)
  few F h =
      let k = and_l (leb cap 4096 && _) _ h in
      (leb→le cap 4096 (and_l (leb cap 4096) _ k), leb→le (states + obs) 4096 (and_l (leb (states + obs) 4096) _ (and_r (leb cap 4096) _ k)))

  abbrev ss : ℕ
  ss = align16 (8 * cap)

  abbrev fs : ℕ
  fs = align16 (8 * (states + obs))

  -- ---- a fast frame

  module _ (g : T (epilogue_holds (head Fast))) (t : Terms (head Fast) len s) where
    abbrev b1 : ℕ
    b1 = bottom (head Fast) s

    m1 : (8 * (states + obs) ≤ fs) × (0 < fs) × (fs ≤ 40000) × (fs % 16 ≡ 0)
    m1 = sized (states + obs) (few Fast g).1

    s1 : (8 * cap ≤ ss) × (0 < ss) × (ss ≤ 40000) × (ss % 16 ≡ 0)
    s1 = sized cap (few Fast g).0

    top1 : b1 + (ss + fs + 32) ≤ 2 ^ 64
    top1 = t.separate.2.0 (omega (arith, m1.1))

    even1 : b1 % 16 ≡ 0
    even1 = bottom_even (s.x 2) (ss + fs + 32) t.sp_aligned (sum fs ss m1.3 s1.3) (omega (arith, m1.2, s1.2))
      where
        sum : (a b : ℕ) → a % 16 ≡ 0 → b % 16 ≡ 0 → (b + a + 32) % 16 ≡ 0
        sum a b h k = omega arith

    bases1 : (q : Place) → 0 < cell_count (head Fast) q → base (head Fast) s q % 8 ≡ 0
    bases1 Mem h = above_even b1 ss even1 s1.3
    bases1 Stack h = half_even b1 even1
    bases1 Param h = absurd (omega arith)

    in1 : (q : Place) (x : ℕ) → Inside (base (head Fast) s q) (cell_count (head Fast) q) x → Within (frame (head Fast) s) x
    in1 Mem x u = mem_frame b1 ss fs 32 (states + obs) cap m1.0 s1.0 top1 m1.1 x u
    in1 Stack x u = stack_frame b1 ss fs 32 (states + obs) cap m1.0 s1.0 top1 x u
    in1 Param x u = absurd (none_inside (s.x 13) x u)

    places1 : (q : Place) (x : ℕ) → Inside (base (head Fast) s q) (cell_count (head Fast) q) x → b1 + (ss + fs) ≤ x → ⊥
    places1 Mem x u = mem_places b1 ss fs 32 (states + obs) cap m1.0 s1.0 top1 m1.1 x u
    places1 Stack x u = stack_places b1 ss fs 32 (states + obs) cap m1.0 s1.0 top1 x u
    places1 Param x u = absurd (none_inside (s.x 13) x u)

    fits1 : (q : Place) → 0 < cell_count (head Fast) q → base (head Fast) s q + 8 * cell_count (head Fast) q ≤ 2 ^ 64
    fits1 Mem h = mem_fits b1 ss fs 32 (states + obs) cap m1.0 s1.0 top1 m1.1
    fits1 Stack h = stack_fits b1 ss fs 32 (states + obs) cap m1.0 s1.0 top1
    fits1 Param h = absurd (omega arith)

    fast_lies : Lies (head Fast) len s
    fast_lies =
        record {
          top = top1;
          sp = sp_back (s.x 2) (ss + fs + 32) (o.x 2) (omega (arith, m1.2, s1.2));
          frame_aligned = even1;
          bases_aligned = bases1;
          code_top = ending s.pc len o.pc t.separate.0;
          code_frame = t.separate.1.0;
          mem_base = λ h. mem_at b1 ss fs 32 (states + obs) cap m1.0 s1.0 top1 m1.1;
          rooms =
              rooms_of (base (head Fast) s) (cell_count (head Fast)) fits1
              (mem_stack b1 ss fs 32 (states + obs) cap m1.0 s1.0 top1 m1.1)
              (λ x u v. none_inside (s.x 13) x v)
              (λ x u v. none_inside (s.x 13) x v);
          off_code = λ q x u a b. t.separate.1.0 x (a, b) (in1 q x u);
          off_places = λ q x u a b. places1 q x u a;
          mem_in = λ h. in1 Mem;
          stack_in = in1 Stack;
          param_frame = λ x u v. none_inside (s.x 13) x u;
          table_top = λ h. absurd h;
          table_frame = λ h. absurd h;
          off_table = λ h. absurd h;
          obs_off = λ h. absurd h;
          block_top = λ h. absurd h;
          block_frame = λ h. absurd h;
        }

  -- ---- an indirect frame

  module _ (g : T (epilogue_holds (head Indirect))) where
    m2 : (8 * (states + obs) ≤ fs) × (0 < fs) × (fs ≤ 40000) × (fs % 16 ≡ 0)
    m2 = sized (states + obs) (few Indirect g).1

    s2 : (8 * cap ≤ ss) × (0 < ss) × (ss ≤ 40000) × (ss % 16 ≡ 0)
    s2 = sized cap (few Indirect g).0

    -- the table is used
    module _ (e : eqb (s.x 11) 0 ≡ false) (t : Terms (head Indirect) len s) where
      abbrev b2 : ℕ
      b2 = w64 (s.x 2 + (2 ^ 64 - (ss + fs + 64)))

      sep2 : Separate (code len s ∷ record { start = b2; size = ss + fs + 64 } ∷ params (head Indirect) s ∷ table (head Indirect) s ∷ [])
      sep2 = rw e at t.separate

      top2 : b2 + (ss + fs + 64) ≤ 2 ^ 64
      top2 = sep2.2.0 (omega (arith, m2.1))

      abbrev A2 : Place → ℕ
      A2 Mem = w64 (b2 + ss)
      A2 Stack = b2
      A2 Param = s.x 13

      base2 : (q : Place) → base (head Indirect) s q ≡ A2 q
      base2 Mem = rw e
      base2 Stack = rw e
      base2 Param = refl

      even2 : b2 % 16 ≡ 0
      even2 = bottom_even (s.x 2) (ss + fs + 64) t.sp_aligned (sum fs ss m2.3 s2.3) (omega (arith, m2.2, s2.2))
        where
          sum : (a b : ℕ) → a % 16 ≡ 0 → b % 16 ≡ 0 → (b + a + 64) % 16 ≡ 0
          sum a b h k = omega arith

      bases2 : (q : Place) → 0 < cell_count (head Indirect) q → A2 q % 8 ≡ 0
      bases2 Mem h = above_even b2 ss even2 s2.3
      bases2 Stack h = half_even b2 even2
      bases2 Param h = t.params_aligned h

      mem2 : (x : ℕ) → Inside (A2 Mem) (states + obs) x → (b2 ≤ x) × (x < b2 + (ss + fs + 64))
      mem2 = mem_frame b2 ss fs 64 (states + obs) cap m2.0 s2.0 top2 m2.1

      stack2 : (x : ℕ) → Inside (A2 Stack) cap x → (b2 ≤ x) × (x < b2 + (ss + fs + 64))
      stack2 = stack_frame b2 ss fs 64 (states + obs) cap m2.0 s2.0 top2

      fits2 : (q : Place) → 0 < cell_count (head Indirect) q → A2 q + 8 * cell_count (head Indirect) q ≤ 2 ^ 64
      fits2 Mem h = mem_fits b2 ss fs 64 (states + obs) cap m2.0 s2.0 top2 m2.1
      fits2 Stack h = stack_fits b2 ss fs 64 (states + obs) cap m2.0 s2.0 top2
      fits2 Param h = sep2.2.2.0 (omega arith)

      rooms2 : Rooms A2 (cell_count (head Indirect))
      rooms2 =
          rooms_of A2 (cell_count (head Indirect)) fits2
          (mem_stack b2 ss fs 64 (states + obs) cap m2.0 s2.0 top2 m2.1)
          (λ x u v. sep2.2.1.0 x (mem2 x u) v)
          (λ x u v. sep2.2.1.0 x (stack2 x u) v)

      code2 : (q : Place) (x : ℕ) → Inside (A2 q) (cell_count (head Indirect) q) x → s.pc ≤ x → x < s.pc + len → ⊥
      code2 Mem x u a b = sep2.1.0 x (a, b) (mem2 x u)
      code2 Stack x u a b = sep2.1.0 x (a, b) (stack2 x u)
      code2 Param x u a b = sep2.1.1.0 x (a, b) u

      places2 : (q : Place) (x : ℕ) → Inside (A2 q) (cell_count (head Indirect) q) x → b2 + (ss + fs) ≤ x → x < b2 + (ss + fs + 64) → ⊥
      places2 Mem x u a b = mem_places b2 ss fs 64 (states + obs) cap m2.0 s2.0 top2 m2.1 x u a
      places2 Stack x u a b = stack_places b2 ss fs 64 (states + obs) cap m2.0 s2.0 top2 x u a
      places2 Param x u a b = sep2.2.1.0 x (omega arith, b) u

      off2 : (q : Place) (x : ℕ) → Inside (A2 q) (cell_count (head Indirect) q) x → Within (table (head Indirect) s) x → ⊥
      off2 Mem x u v = sep2.2.1.1.0 x (mem2 x u) v
      off2 Stack x u v = sep2.2.1.1.0 x (stack2 x u) v
      off2 Param x u v = sep2.2.2.1.0 x u v

      obs2 : T (not (eqb (s.x 11) 0)) → (i : ℕ) → i < obs → (x : ℕ) → x < 2 ^ 64 → dist (table_cell (head Indirect) s (states + i)) x < 8 → (Within (code len s) x → ⊥) × (Within (frame (head Indirect) s) x → ⊥) × (Within (table (head Indirect) s) x → ⊥) × (Within (params (head Indirect) s) x → ⊥)
      obs2 h i k x b d =
          let a : ℕ = table_cell (head Indirect) s (states + i) in
          let y : w64 (a + dist a x) ≡ x = dist_back a x b in
          let v = t.obs_cells h i k in
          let w = rw e at v.1.1.1.0 in
          (rw y at (v.0 (dist a x) d), rw y at (v.1.0 (dist a x) d), rw y at (w (dist a x) d), rw y at (v.1.1.0 (dist a x) d))

      table_lies : Lies (head Indirect) len s
      table_lies =
          record {
            top = rw e top2;
            sp = rw e (sp_back (s.x 2) (ss + fs + 64) (o.x 2) (omega (arith, m2.2, s2.2)));
            code_top = ending s.pc len o.pc t.separate.0;
            code_frame = t.separate.1.0;
            frame_aligned = rw e even2;
            bases_aligned = λ q h. rw (base2 q) (bases2 q h);
            mem_base = rw e (λ h. mem_at b2 ss fs 64 (states + obs) cap m2.0 s2.0 top2 m2.1);
            rooms = subst (λ (A : Place → ℕ). Rooms A (cell_count (head Indirect))) (fun_ext (λ q. sym (base2 q))) rooms2;
            off_code = λ q x u. code2 q x (rw (base2 q) at u);
            off_places = rw e (λ q x u. places2 q x (rw (base2 q) at u));
            mem_in = rw e (λ h. mem2);
            stack_in = rw e stack2;
            param_frame = rw e (λ x u v. sep2.2.1.0 x v u);
            table_top = λ h. ending (s.x 11) (16 * (states + obs)) (o.x 11) sep2.2.2.2.0;
            table_frame = rw e (λ h x u v. sep2.2.1.1.0 x v u);
            off_table = λ h q x u. off2 q x (rw (base2 q) at u);
            obs_off = λ h i k x b d. obs2 h i k x b d;
            block_top = rw e (λ h. absurd h);
            block_frame = rw e (λ h. absurd h);
          }

    -- a1 is zero, and `mem` is the block at a0
    module _ (e : eqb (s.x 11) 0 ≡ true) (t : Terms (head Indirect) len s) where
      abbrev b3 : ℕ
      b3 = w64 (s.x 2 + (2 ^ 64 - (ss + 0 + 64)))

      sep3 : Separate (code len s ∷ record { start = b3; size = ss + 0 + 64 } ∷ params (head Indirect) s ∷ block (head Indirect) s ∷ [])
      sep3 = rw e at t.separate

      top3 : b3 + (ss + 0 + 64) ≤ 2 ^ 64
      top3 = sep3.2.0 (omega (arith, s2.1))

      abbrev A3 : Place → ℕ
      A3 Mem = s.x 10
      A3 Stack = b3
      A3 Param = s.x 13

      base3 : (q : Place) → base (head Indirect) s q ≡ A3 q
      base3 Mem = rw e
      base3 Stack = rw e
      base3 Param = refl

      even3 : b3 % 16 ≡ 0
      even3 = bottom_even (s.x 2) (ss + 0 + 64) t.sp_aligned (omega (arith, s2.3)) (omega (arith, s2.2))

      bases3 : (q : Place) → 0 < cell_count (head Indirect) q → A3 q % 8 ≡ 0
      bases3 Mem h = t.block_aligned (rw e tt)
      bases3 Stack h = half_even b3 even3
      bases3 Param h = t.params_aligned h

      stack3 : (x : ℕ) → Inside (A3 Stack) cap x → (b3 ≤ x) × (x < b3 + (ss + 0 + 64))
      stack3 = stack_frame b3 ss 0 64 0 cap (omega arith) s2.0 top3

      fits3 : (q : Place) → 0 < cell_count (head Indirect) q → A3 q + 8 * cell_count (head Indirect) q ≤ 2 ^ 64
      fits3 Mem h = sep3.2.2.2.0 (omega arith)
      fits3 Stack h = stack_fits b3 ss 0 64 0 cap (omega arith) s2.0 top3
      fits3 Param h = sep3.2.2.0 (omega arith)

      rooms3 : Rooms A3 (cell_count (head Indirect))
      rooms3 =
          rooms_of A3 (cell_count (head Indirect)) fits3
          (λ x u v. sep3.2.1.1.0 x (stack3 x v) u)
          (λ x u v. sep3.2.2.1.0 x v u)
          (λ x u v. sep3.2.1.0 x (stack3 x u) v)

      code3 : (q : Place) (x : ℕ) → Inside (A3 q) (cell_count (head Indirect) q) x → s.pc ≤ x → x < s.pc + len → ⊥
      code3 Mem x u a b = sep3.1.1.1.0 x (a, b) u
      code3 Stack x u a b = sep3.1.0 x (a, b) (stack3 x u)
      code3 Param x u a b = sep3.1.1.0 x (a, b) u

      places3 : (q : Place) (x : ℕ) → Inside (A3 q) (cell_count (head Indirect) q) x → b3 + (ss + 0) ≤ x → x < b3 + (ss + 0 + 64) → ⊥
      places3 Mem x u a b = sep3.2.1.1.0 x (omega arith, b) u
      places3 Stack x u a b = stack_places b3 ss 0 64 0 cap (omega arith) s2.0 top3 x u a
      places3 Param x u a b = sep3.2.1.0 x (omega arith, b) u

      block_lies : Lies (head Indirect) len s
      block_lies =
          record {
            top = rw e top3;
            sp = rw e (sp_back (s.x 2) (ss + 0 + 64) (o.x 2) (omega (arith, s2.2)));
            code_top = ending s.pc len o.pc t.separate.0;
            code_frame = t.separate.1.0;
            frame_aligned = rw e even3;
            bases_aligned = λ q h. rw (base3 q) (bases3 q h);
            mem_base = rw e (λ h. absurd h);
            rooms = subst (λ (A : Place → ℕ). Rooms A (cell_count (head Indirect))) (fun_ext (λ q. sym (base3 q))) rooms3;
            off_code = λ q x u. code3 q x (rw (base3 q) at u);
            off_places = rw e (λ q x u. places3 q x (rw (base3 q) at u));
            mem_in = rw e (λ h. absurd h);
            stack_in = rw e stack3;
            param_frame = rw e (λ x u v. sep3.2.1.0 x v u);
            table_top = rw e (λ h. absurd h);
            table_frame = rw e (λ h. absurd h);
            off_table = rw e (λ h. absurd h);
            obs_off = rw e (λ h. absurd h);
            block_top = λ h. ending (s.x 10) (8 * (states + obs)) (o.x 10) sep3.2.2.2.0;
            block_frame = rw e (λ h x u v. sep3.2.1.1.0 x v u);
          }

-- ---- over both frames

abbrev with_frame : Frame → Head → Head
with_frame F H = record { frame = F; cap = H.cap; states = H.states; obs = H.obs; last = H.last; mask = H.mask }

pub lies : (H : Head) (len : ℕ) (s : State) → Sound s → T (epilogue_holds H) → Terms H len s → Lies H len s
lies H len s o = by H.frame refl
  where
    Known : Head → Type 0
    Known G = T (epilogue_holds G) → Terms G len s → Lies G len s

    indirect : (b : Bool) → eqb (s.x 11) 0 ≡ b → Known (with_frame Indirect H)
    indirect true e g t = block_lies H.cap H.states H.obs H.last H.mask len s o g e t
    indirect false e g t = table_lies H.cap H.states H.obs H.last H.mask len s o g e t

    by : (F : Frame) → H.frame ≡ F → Known H
    by Fast e = subst Known (λ i. with_frame (sym e i) H) (fast_lies H.cap H.states H.obs H.last H.mask len s o)
    by Indirect e = subst Known (λ i. with_frame (sym e i) H) (indirect (eqb (s.x 11) 0) refl)
