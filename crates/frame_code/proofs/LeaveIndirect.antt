-- Reloads and epilogue of an indirect frame.
use mathlib.Core.Path.{◌≡◌, refl, ap, sym, subst, ◌∙◌}
use mathlib.Core.Logic.{◌≢◌}
use mathlib.Core.Bool.{Bool, true, false, not, ◌&&◌, cond}
use mathlib.Core.List.{List, [], ◌∷◌, ◌++◌}
use Prim.Native.Nat.{ℕ, zero, suc, ◌+◌, ◌*◌, ◌%◌, ◌^◌, ◌≤◌, ◌<◌}
use native.Mathlib.Omega.{arith}
use borrow.Author.Tests.{eqb-true, eqb-false}
use lib.Dec.{T, eqb, leb, leb→le}
use lib.IntN.{pos}
use lib.ListN.{length, length-append, get_or}
use Rattle.isa.specs.Instr.{Instr, R, ADD}
use Rattle.isa.specs.Encode.{encode}
use Rattle.machine.specs.Word.{w64, load8}
use Rattle.machine.specs.Floats.{Floats}
use Rattle.machine.specs.State.{State}
use Rattle.machine.specs.Effect.{exec}
use Rattle.machine.specs.Step.{Among, RunIn}
use Rattle.machine.proofs.Exec.{execs}
use Rattle.machine.proofs.Memory.{load8_small}
use Rattle.base.proofs.Bools.{and_l, and_r}
use Rattle.machine.proofs.Stores.{Off}
use Rattle.ast.specs.declared.Frame.TheVariants.{Indirect}
use Rattle.ast.specs.declared.Head.{Head}
use Rattle.assembler.specs.Item.{Item, jump, label}
use Rattle.assembler.specs.declared.JumpKind.TheVariants.{Beq}
use Rattle.assembler.specs.Resolved.{resolved}
use Rattle.accesses.specs.Code.{li_code}
use Rattle.accesses.proofs.Lengths.{li_length}
use Rattle.reading.specs.Size.{frame_size, stack_size, mem_size}
use Rattle.ast.specs.Mask.{saved}
use Rattle.frame_code.specs.Items.{at_epi, at_done, code, kept, closing, obs_copy, repeated, reloads, epilogue}
use Rattle.frame_code.proofs.Land.{load8_same, not_or, or_not}
use Rattle.frame_code.proofs.Walk.{Words, Stood, stood_left, stood_right, behind_label, behind_jump, jump_word, Came, came_at, hop, run_rm}
use Rattle.frame_code.proofs.Seg.{Seg}
use Rattle.frame_code.proofs.Count.{repeated_words, repeated_none}
use Rattle.frame_code.proofs.Repeat.{Round, repeat}
use Rattle.frame_code.proofs.Copy.{off_part, copy_regs}
use Rattle.frame_code.proofs.Give.{goal, result, given, Given, given_free, give, given_begin}
use Rattle.frame_code.proofs.Indirect.{forward, over, over_keeps, over_goes, over_stays}
use Rattle.frame_code.proofs.Rows.{not_ten}
use Rattle.frame_code.proofs.Reload.{restoring, return, restored, Restored, restores_indirect}
use Rattle.frame_code.proofs.Leave.{Reloaded, stood, reloaded, Closed, closes}
use Rattle.frame_code.specs.Steps.{repeated_steps}
use Rattle.reading.specs.Terms.{table_cell, observed}
use Rattle.frame_code.proofs.Ends.{ObservedAt, mem_at, exit_words, EpilogueTerms, EpilogueDone, end_sets}

-- a register that the end doesn't set
clear : (r : ℕ) → T (not (end_sets Indirect r)) → T (not (restored Indirect r)) × T (not (copy_regs r)) × (r ≢ 10)
clear r h =
    let p1 = not_or (eqb r 1) _ h in
    let p2 = not_or (eqb r 2) _ p1.1 in
    let p5 = not_or (eqb r 5) _ p2.1 in
    let p6 = not_or (eqb r 6) _ p5.1 in
    let p7 = not_or (eqb r 7) _ p6.1 in
    let p8 = not_or (eqb r 8) _ p7.1 in
    let p9 = not_or (eqb r 9) _ p8.1 in
    let p10 = not_or (eqb r 10) _ p9.1 in
    let p18 = not_or (eqb r 18) _ p10.1 in (
      or_not (eqb r 1) _ p1.0 (or_not (eqb r 2) _ p2.0 (or_not (eqb r 8) _ p8.0 p8.1)),
      or_not (eqb r 5) _ p5.0 (or_not (eqb r 6) _ p6.0 (or_not (eqb r 7) (eqb r 18) p7.0 p18.0)),
      λ e. rw e at h,
    )

module _ (Q : Floats) (cap states obs last mask : ℕ) (at : ℕ → ℕ) (s : State) (bottom a here : ℕ) (u : State) where
  abbrev H : Head
  H = record { frame = Indirect; cap = cap; states = states; obs = obs; last = last; mask = mask }

  module _ (l : EpilogueTerms H at s bottom a here u) where
    abbrev P : ℕ → Type 0
    P = ObservedAt H s

    abbrev C : ℕ → Type 0
    C = Among u.pc (length (exit_words H at here))

    abbrev ss : ℕ
    ss = stack_size H

    abbrev ms : ℕ
    ms = mem_size H (s.x 11)

    abbrev fp : ℕ
    fp = bottom + (ss + ms)

    few : (cap ≤ 4096) × (states + obs ≤ 4096)
    few =
        let h = and_l (leb cap 4096 && (leb (states + obs) 4096 && leb last 4096)) true l.counts in
        (leb→le cap 4096 (and_l (leb cap 4096) _ h), leb→le (states + obs) 4096 (and_l (leb (states + obs) 4096) _ (and_r (leb cap 4096) _ h)))

    fp_even : fp % 8 ≡ 0
    fp_even = by (eqb (s.x 11) 0)
      where
        by : (z : Bool) → (bottom + (ss + cond (not z) (frame_size H) 0)) % 8 ≡ 0
        by true = omega (arith, l.frame_aligned)
        by false = omega (arith, l.frame_aligned)

    one : (w : State) × Reloaded Q H at s a here u w
    one = reloaded Q H at s bottom a here u l

    -- the items
    abbrev first : List Instr
    first = li_code 6 (pos (8 * states)) ++ (R ADD 6 6 9 ∷ [])

    abbrev copies : List Item
    copies = repeated obs first obs_copy at_epi

    abbrev down : List Item
    down = label at_done ∷ code (closing Indirect)

    abbrev items : List Item
    items = jump Beq at_done 0 ∷ (copies ++ down)

    abbrev h1 : ℕ
    h1 = here + 4 * length (resolved at here (reloads mask))

    abbrev h2 : ℕ
    h2 = h1 + 4

    abbrev h3 : ℕ
    h3 = h2 + 4 * length (resolved at h2 copies)

    st1 : Stood at C P u.mem a h1 items
    unfolding epilogue
    st1 = stood_right here (reloads mask) items (stood Q H at s bottom a here u l)

    st2 : Stood at C P u.mem a h2 (copies ++ down)
    st2 = behind_jump h1 Beq at_done 0 _ st1

    st3 : Stood at C P u.mem a h3 down
    st3 = stood_right h2 copies down st2

    abbrev way : ℕ
    way = 1 + length (resolved at h2 copies)

    short_way : way < 1024
    short_way = omega (arith, repeated_words at h2 obs at_epi first obs_copy refl, length-append (li_code 6 (pos (8 * states))) (R ADD 6 6 9 ∷ []), li_length 6 (pos (8 * states)))

    branch : Words C P u.mem (a + h1) (encode (over way) ∷ [])
    branch =
        let e : at at_done ≡ h1 + 4 * way = st3.labels.0 ∙ omega arith in
        rw (e, forward h1 way) at (jump_word h1 Beq at_done 0 _ st1)

    abbrev past : State
    past = exec Q (over way) one.0

    abbrev begun : ℕ
    begun = 2 + length (saved mask)

    came2 : (b : ℕ) → past.pc ≡ w64 b → Came Q C P u b begun past
    came2 b p = came_at refl (omega arith) (hop (over way) (a + h1) b (1 + length (saved mask)) one.0 branch one.1.came (omega (arith, short_way)) tt (over_keeps Q one.0 way).2 p)

    past_x : (r : ℕ) → r ≢ 10 → past.x r ≡ u.x r
    past_x r h = ap (λ (x : ℕ → ℕ). x r) (over_keeps Q one.0 way).0 ∙ one.1.x r h

    past_mem : past.mem ≡ u.mem
    past_mem = (over_keeps Q one.0 way).2 ∙ one.1.mem

    abbrev cell : ℕ → ℕ
    cell j = load8 u.mem (w64 (mem_at H s bottom + 8 * j))

    -- at `@done`, whichever way it was reached
    record Done (k : ℕ) (w : State) : Type 0 where
      came : Came Q C P u (a + h3) k w
      x : (r : ℕ) → T (not (copy_regs r)) → r ≢ 10 → w.x r ≡ u.x r
      f : (r : ℕ) → r ≢ 10 → w.f r ≡ one.0.f r
      mem : w.mem ≡ cond (not (eqb (s.x 11) 0)) (observed H s cell 0 obs u.mem) u.mem

    seen : (r : ℕ) → T (not (copy_regs r)) → r ≢ 10 → past.x r ≡ u.x r
    seen r h n = past_x r n

    -- a1 is zero
    jumped : eqb (s.x 11) 0 ≡ true → (w : State) × Done begun w
    jumped e =
        let z : one.0.x 18 ≡ 0 = one.1.x 18 (λ y. omega arith) ∙ l.s2 tt ∙ rw e refl in (
          past,
          record {
            came = came2 (a + h3) (over_goes Q one.0 way (a + h1) one.1.came.pc z ∙ omega arith);
            x = seen;
            f = λ r h. ap (λ (f : ℕ → ℕ). f r) (over_keeps Q one.0 way).1;
            mem = rw e past_mem;
          },
        )

    module _ (e : eqb (s.x 11) 0 ≡ false) where
      used : T (not (eqb (s.x 11) 0))
      used = rw e tt

      pointer : one.0.x 18 ≡ w64 (s.x 11 + 16 * states)
      pointer = one.1.x 18 (λ y. omega arith) ∙ l.s2 tt ∙ rw e refl

      -- no observations: the pointer may be zero, and both ways lead to `@done`
      none : eqb obs 0 ≡ true → (w : State) × Done (begun + repeated_steps obs (length first)) w
      none z =
          let n : obs ≡ 0 = eqb-true obs 0 z in (
            past,
            record {
              came = came_at refl (rw z (omega arith)) (came2 (a + h3) (by (eqb (one.0.x 18) 0) refl));
              x = seen;
              f = λ r h. ap (λ (f : ℕ → ℕ). f r) (over_keeps Q one.0 way).1;
              mem = rw e (past_mem ∙ nothing obs n);
            },
          )
        where
          empty : length (resolved at h2 copies) ≡ 0
          empty = repeated_none at h2 obs at_epi first obs_copy refl z

          by : (b : Bool) → eqb (one.0.x 18) 0 ≡ b → past.pc ≡ w64 (a + h3)
          by true y = over_goes Q one.0 way (a + h1) one.1.came.pc (eqb-true (one.0.x 18) 0 y) ∙ omega arith
          by false y = over_stays Q one.0 way (a + h1) one.1.came.pc (eqb-false (one.0.x 18) 0 y) ∙ ap (λ (k : ℕ). k % 2 ^ 64) (omega (arith, empty))

          nothing : (n : ℕ) → n ≡ 0 → u.mem ≡ observed H s cell 0 n u.mem
          nothing zero y = refl
          nothing (suc n) y = absurd (omega arith)

      -- some: the pointer lies before the table's end
      module _ (n : obs ≢ 0) where
        not_zero : one.0.x 18 ≢ 0
        not_zero z = omega (arith, pointer, z, l.table_fits used, eqb-false (s.x 11) 0 e, n)

        fall : Came Q C P u (a + h2) begun past
        fall = came2 (a + h2) (over_stays Q one.0 way (a + h1) one.1.came.pc not_zero ∙ ap (λ (k : ℕ). k % 2 ^ 64) (omega arith))

        abbrev base : ℕ
        base = bottom + ss

        ms_is : ms ≡ frame_size H
        ms_is = rw e refl

        abbrev Inv : ℕ → State → Type 0
        Inv = Given Q P past.mem past.x past.f base (s.x 11) (8 * s.x 12) states obs

        begin : (v : State) × Seg Q P first past v × Inv 0 v
        begin =
            given_begin Q P base (s.x 11) (8 * s.x 12) states obs past
            (past_x 9 (λ y. omega arith) ∙ l.s1 ∙ rw e refl)
            (ap (λ (x : ℕ → ℕ). x 18) (over_keeps Q one.0 way).0 ∙ pointer)
            (past_x 19 (λ y. omega arith) ∙ l.s3 tt ∙ rw e refl)
            (omega (arith, few))

        -- where the observation cells are
        goal_is : (i : ℕ) → i < obs → goal Q P past.mem past.x past.f base (s.x 11) (8 * s.x 12) states obs i ≡ table_cell H s (states + i)
        goal_is i h = rw (past_mem, l.pointers used i h)

        cell_off : (i : ℕ) → i < obs → Off P (w64 (base + 8 * (states + i))) 8
        cell_off i h =
            let z : bottom + (ss + 8 * (states + i)) ≡ base + 8 * (states + i) = omega arith in
            rw z at (off_part P bottom (ss + ms + 64) (ss + 8 * (states + i)) l.frame_apart (omega (arith, ms_is)) (omega (arith, few, ms_is)))

        again : (i : ℕ) (v : State) → i < obs → Inv i v → Round Q P obs_copy obs Inv i v
        again =
            give Q P past.mem past.x past.f base (s.x 11) (8 * s.x 12) states obs
            (λ i x h d. (used, i, h, rw (goal_is i h) at d))
            (λ i h. off_part P (s.x 11) (16 * (states + obs)) (16 * (states + i)) (l.table_apart used) (omega arith) (omega (arith, few)))
            cell_off (omega (arith, l.frame_aligned)) (l.table_aligned used) (λ i h. rw (goal_is i h) (l.obs_aligned used i h))

        done : (w : State) × Came Q C P u (a + h3) (begun + repeated_steps obs (length first)) w × Inv obs w
        done =
            repeat Q P obs_copy obs Inv C refl again (given_free Q P past.mem past.x past.f base (s.x 11) (8 * s.x 12) states obs) at a u h2 begun at_epi past begin.0 first n (omega (arith, few)) fall begin.1 begin.2
            (stood_left h2 copies down st2)

        -- memory with i given, in the reading's terms
        abbrev mem_with : ℕ → ℕ → ℕ
        mem_with = given Q P past.mem past.x past.f base (s.x 11) (8 * s.x 12) states obs

        observes : (k i : ℕ) → i + k ≡ obs → observed H s cell i k (mem_with i) ≡ mem_with obs
        observes zero i h = let z : i ≡ obs = omega arith in ap mem_with z
        observes (suc k) i h = rw (← (goal_is i (omega arith)), ← (result_is i)) (observes k (suc i) (omega arith))
          where
            result_is : (j : ℕ) → result Q P past.mem past.x past.f base (s.x 11) (8 * s.x 12) states obs j ≡ cell (states + j)
            result_is j = rw (past_mem, e)

        some : (w : State) × Done (begun + repeated_steps obs (length first)) w
        some = (
          done.0,
          record {
            came = done.1;
            x = λ r h k. done.2.x r h ∙ past_x r k;
            f = λ r h. done.2.f r h ∙ ap (λ (f : ℕ → ℕ). f r) (over_keeps Q one.0 way).1;
            mem = rw e (done.2.mem ∙ sym (observes obs 0 (omega arith)) ∙ ap (observed H s cell 0 obs) past_mem);
          },
        )

      table : (w : State) × Done (begun + repeated_steps obs (length first)) w
      table = by (eqb obs 0) refl
        where
          by : (z : Bool) → eqb obs 0 ≡ z → (w : State) × Done (begun + repeated_steps obs (length first)) w
          by true z = none z
          by false z = some (eqb-false obs 0 z)

    abbrev done_steps : Bool → ℕ
    done_steps z = begun + cond z 0 (repeated_steps obs (length first))

    two : (w : State) × Done (done_steps (eqb (s.x 11) 0)) w
    two = by (eqb (s.x 11) 0) refl
      where
        by : (z : Bool) → eqb (s.x 11) 0 ≡ z → (w : State) × Done (done_steps z) w
        by true z = let j = jumped z in (j.0, record { came = came_at refl (omega arith) j.1.came; x = j.1.x; f = j.1.f; mem = j.1.mem })
        by false z = table z

    -- ---- the closing

    -- places of registers, which no observation cell touches
    place : (i : ℕ) → i < 7 → load8 two.0.mem (fp + 8 * i) ≡ s.x (get_or (kept Indirect) i 0)
    place i h =
        let z : w64 (bottom + (ss + ms + 8 * i)) ≡ fp + 8 * i = omega (arith, l.fits) in
        load8_same P two.0.mem u.mem (fp + 8 * i) two.1.came.same (rw z at (off_part P bottom (ss + ms + 64) (ss + ms + 8 * i) l.frame_apart (omega arith) (omega (arith, l.fits))))
        ∙ l.places i h

    abbrev three : State
    three = execs Q (restoring Indirect) two.0

    back : Restored Q P Indirect fp two.0 three
    back = restores_indirect Q P fp two.0 (two.1.x 8 tt (λ y. omega arith) ∙ l.s0) fp_even (omega (arith, l.fits)) (omega (arith, l.fits))

    ra : three.x 1 ≡ s.x 1
    ra = back.regs 0 (omega arith) ∙ place 0 (omega arith)

    ra_small : s.x 1 < 2 ^ 64
    ra_small = subst (λ (k : ℕ). k < 2 ^ 64) (l.places 0 (omega arith)) (load8_small u.mem (fp + 8 * 0) l.sound.mem)

    end : Closed Q C P Indirect fp (s.x 1) (done_steps (eqb (s.x 11) 0)) u two.0 (exec Q return three)
    end = closes Q C P at Indirect fp (s.x 1) a h3 (done_steps (eqb (s.x 11) 0)) u two.0 three (behind_label h3 at_done _ st3) two.1.came back ra l.ra ra_small

    first_length : length first ≡ length (li_code 6 (pos (8 * states))) + 1
    first_length = length-append (li_code 6 (pos (8 * states))) (R ADD 6 6 9 ∷ [])

    pub returned : (v : State) × EpilogueDone Q H at s bottom here u v
    returned = (
      exec Q return three,
      record {
        runs = subst (λ (k : ℕ). RunIn Q C u k (exec Q return three)) count end.came.runs;
        pc = end.came.pc ∙ omega (arith, ra_small);
        sp = end.sp ∙ sym (l.sp ∙ ap (λ (k : ℕ). k % 2 ^ 64) (omega arith));
        a0 = end.a0;
        restored = λ i h. end.regs i h ∙ place i h;
        others = λ r h. let k = clear r h in end.x r k.0 ∙ two.1.x r k.1 k.2;
        reloaded = λ r m. ap (λ (f : ℕ → ℕ). f r) end.f ∙ two.1.f r (not_ten mask r m) ∙ one.1.saved_f r m;
        result = λ h. absurd h;
        floats = λ r h n. ap (λ (f : ℕ → ℕ). f r) end.f ∙ two.1.f r h ∙ one.1.f r n;
        rm = run_rm end.came.runs.runs;
        mem = end.mem ∙ two.1.mem;
      },
    )
      where
        count : done_steps (eqb (s.x 11) 0) + 11 ≡ 13 + cond (eqb (s.x 11) 0) 0 (repeated_steps obs (length (li_code 6 (pos (8 * states))) + 1)) + length (saved mask)
        count = rw first_length (omega arith)
