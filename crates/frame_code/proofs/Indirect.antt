-- Prologue and saves of an indirect frame.
use mathlib.Core.Path.{◌≡◌, refl, ap, sym, subst, ◌∙◌}
use mathlib.Core.Logic.{◌≢◌}
use mathlib.Core.Bool.{Bool, true, false, not, ◌||◌, cond}
use mathlib.Core.List.{List, [], ◌∷◌, ◌++◌, map, Memᴰ, append_assoc}
use Prim.Native.Nat.{ℕ, ◌+◌, ◌*◌, ◌%◌, ◌^◌, ◌≤◌, ◌<◌}
use native.Mathlib.Nat.{zero-add}
use native.Mathlib.Omega.{arith}
use borrow.Author.Tests.{eqb-true, eqb-false, le-ltb, ne_eqb}
use lib.Dec.{T, eqb, leb, leb→le}
use lib.IntN.{pos, sub_ℕ}
use lib.ListN.{length, length-append, length-map, get_or}
use Rattle.isa.specs.Instr.{Instr, B, Shift, SLLI, BEQ}
use Rattle.isa.specs.Encode.{encode}
use Rattle.machine.specs.Word.{w64, upd, load8}
use Rattle.machine.specs.Floats.{Floats}
use Rattle.machine.specs.State.{State, setx}
use Rattle.machine.specs.Effect.{effect, apply, exec}
use Rattle.machine.specs.Step.{Among, RunIn}
use Rattle.machine.proofs.Exec.{execs}
use Rattle.base.proofs.Bools.{and_l, and_r}
use Rattle.machine.proofs.Runs.{no_step, run_sound}
use Rattle.machine.proofs.Straight.{execs_x}
use Rattle.machine.proofs.Stores.{Same, Off}
use Rattle.ast.specs.declared.Frame.TheVariants.{Indirect}
use Rattle.ast.specs.declared.Head.{Head}
use Rattle.assembler.specs.Item.{Item, jump, label}
use Rattle.assembler.specs.declared.JumpKind.TheVariants.{Beq}
use Rattle.assembler.specs.Resolved.{resolved}
use Rattle.accesses.specs.Code.{sub_stack_code, allocate_stack_code}
use Rattle.accesses.proofs.Lengths.{sub_stack_length}
use Rattle.reading.specs.Size.{frame_size, stack_size, mem_size}
use Rattle.ast.specs.Mask.{saved, save_cell}
use Rattle.frame_code.specs.Items.{at_self, at_main, at_pro, code, mv, kept, opening, state_copy, repeated, save, prologue, saves}
use Rattle.frame_code.proofs.Land.{In, load8_same, off_above, off_below, not_or, or_not}
use Rattle.frame_code.proofs.Walk.{resolved_code, resolved_instrs, resolved_append, Words, Stood, stood_left, stood_right, stood_code, piece, behind, behind_label, behind_jump, jump_word, Came, came_at, hop, run_rm}
use Rattle.frame_code.proofs.Seg.{Seg, seg_join, seg_wider, seg_same, onward_seg, Lowered, down_to, allocate_to, Begun, begun}
use Rattle.frame_code.proofs.Rows.{Stored, saves_stored, not_ten}
use Rattle.frame_code.proofs.Count.{repeated_words, repeated_none}
use Rattle.frame_code.proofs.Repeat.{Round, repeat}
use Rattle.frame_code.proofs.Copy.{off_part, copy_regs, Copied, copied_free, round, begin, floats_last}
use Rattle.frame_code.specs.Steps.{repeated_steps}
use Rattle.reading.specs.Terms.{table_cell, state_value, start_f}
use Rattle.reading.proofs.Start.{start_unused, start_last, start_other}
use Rattle.frame_code.proofs.Ends.{FrameAt, PrologueTerms, PrologueDone, sets, mem_at}

-- ---- the branch over the table's part

pub forward : (here d : ℕ) → sub_ℕ (here + 4 * d) here ≡ pos (4 * d)
forward here d = rw (le-ltb (here + 4 * d) here (omega arith)) (ap pos (omega arith))

abbrev pub over : ℕ → Instr
over d = B BEQ 18 0 (pos (4 * d))

module _ (Q : Floats) (u : State) (d : ℕ) where
  pub over_keeps : ((exec Q (over d) u).x ≡ u.x) × ((exec Q (over d) u).f ≡ u.f) × ((exec Q (over d) u).mem ≡ u.mem)
  unfolding effect apply setx
  over_keeps = (refl, refl, refl)

  pub over_goes : (b : ℕ) → u.pc ≡ w64 b → u.x 18 ≡ 0 → (exec Q (over d) u).pc ≡ w64 (b + 4 * d)
  unfolding effect apply
  over_goes b p e = rw (e, p) (omega arith)

  pub over_stays : (b : ℕ) → u.pc ≡ w64 b → u.x 18 ≢ 0 → (exec Q (over d) u).pc ≡ w64 (b + 4)
  unfolding effect apply
  over_stays b p e = rw (ne_eqb (u.x 18) 0 e, p) (omega arith)

-- ---- arguments to s1..s4

abbrev moves : List Instr
moves = mv 9 10 ∷ mv 18 11 ∷ mv 19 12 ∷ mv 20 13 ∷ []

abbrev move_regs : ℕ → Bool
move_regs r = eqb r 9 || (eqb r 18 || (eqb r 19 || eqb r 20))

module _ (Q : Floats) (P : ℕ → Type 0) (u : State) where
  moved : Seg Q P moves u (execs Q moves u) × ((execs Q moves u).f ≡ u.f) × ((execs Q moves u).mem ≡ u.mem)
  unfolding effect apply
  moved = (record { fit = omega arith; lands = omega arith; end = refl }, refl, refl)

  moved_x : (r : ℕ) → T (not (move_regs r)) → (execs Q moves u).x r ≡ u.x r
  unfolding effect
  moved_x r h = execs_x Q move_regs moves u r tt h

  moved_to : u.x 10 < 2 ^ 64 → u.x 11 < 2 ^ 64 → u.x 12 < 2 ^ 64 → u.x 13 < 2 ^ 64 → ((execs Q moves u).x 9 ≡ u.x 10) × ((execs Q moves u).x 18 ≡ u.x 11) × ((execs Q moves u).x 19 ≡ u.x 12) × ((execs Q moves u).x 20 ≡ u.x 13)
  unfolding effect apply setx upd
  moved_to a b c d = (omega arith, omega arith, omega arith, omega arith)

-- a register that the frame doesn't set is none of its parts'
clear : (r : ℕ) → T (not (sets Indirect r)) → T (not (eqb r 2 || (eqb r 5 || eqb r 8))) × T (not (move_regs r)) × T (not (copy_regs r)) × T (not (eqb r 2 || (eqb r 5 || eqb r 9))) × T (not (eqb r 2 || (eqb r 5 || eqb r 21))) × T (not (eqb r 19))
clear r h =
    let p2 = not_or (eqb r 2) _ h in
    let p5 = not_or (eqb r 5) _ p2.1 in
    let p6 = not_or (eqb r 6) _ p5.1 in
    let p7 = not_or (eqb r 7) _ p6.1 in
    let p8 = not_or (eqb r 8) _ p7.1 in
    let p9 = not_or (eqb r 9) _ p8.1 in
    let p18 = not_or (eqb r 18) _ p9.1 in
    let p19 = not_or (eqb r 19) _ p18.1 in
    let p20 = not_or (eqb r 20) (eqb r 21) p19.1 in
    let stack : (b : Bool) → T (not b) → T (not (eqb r 2 || (eqb r 5 || b))) = λ b k. or_not (eqb r 2) _ p2.0 (or_not (eqb r 5) b p5.0 k) in (
      stack (eqb r 8) p8.0,
      or_not (eqb r 9) _ p9.0 (or_not (eqb r 18) _ p18.0 (or_not (eqb r 19) (eqb r 20) p19.0 p20.0)),
      or_not (eqb r 5) _ p5.0 (or_not (eqb r 6) _ p6.0 (or_not (eqb r 7) (eqb r 18) p7.0 p18.0)),
      stack (eqb r 9) p9.0,
      stack (eqb r 21) p20.1,
      p19.0,
    )

thirteen : length (opening Indirect ++ moves) ≡ 13
unfolding sub_stack_code
thirteen = refl

module _ (Q : Floats) (cap states obs last mask : ℕ) (at : ℕ → ℕ) (s : State) (bottom : ℕ) where
  abbrev H : Head
  H = record { frame = Indirect; cap = cap; states = states; obs = obs; last = last; mask = mask }

  module _ (c : PrologueTerms H at s bottom) where
    abbrev fs : ℕ
    fs = frame_size H

    abbrev ss : ℕ
    ss = stack_size H

    abbrev ms : ℕ
    ms = mem_size H (s.x 11)

    abbrev fp : ℕ
    fp = bottom + (ss + ms)

    abbrev base : ℕ
    base = bottom + ss

    few : (cap ≤ 4096) × (states + obs ≤ 4096)
    few =
        let h = c.counts in
        (leb→le cap 4096 (and_l (leb cap 4096) _ h), leb→le (states + obs) 4096 (and_l (leb (states + obs) 4096) _ (and_r (leb cap 4096) _ h)))

    sizes : (8 * (states + obs) ≤ fs) × (fs ≤ 40000) × (8 * cap ≤ ss) × (ss ≤ 40000) × (16 ≤ ss)
    sizes = let h = few in omega arith

    top : fp + 64 ≤ 2 ^ 64
    top = omega (arith, c.fits)

    abbrev P : ℕ → Type 0
    P = FrameAt H s bottom

    abbrev C : ℕ → Type 0
    C = Among s.pc (length (resolved at 0 (prologue H ++ saves mask)))

    -- the items
    abbrev first : List Instr
    first = opening Indirect ++ moves

    abbrev down : List Instr
    down = sub_stack_code fs ++ (mv 9 2 ∷ Shift SLLI 19 19 (pos 3) ∷ [])

    abbrev copies : List Item
    copies = repeated states (mv 6 9 ∷ []) state_copy at_pro

    abbrev up : List Item
    up = label at_main ∷ code (allocate_stack_code ss)

    abbrev items : List Item
    items = label at_self ∷ (code first ++ (jump Beq at_main 0 ∷ (code down ++ (copies ++ up))))

    -- where they stand
    abbrev h1 : ℕ
    h1 = 0 + 4 * length first

    abbrev h2 : ℕ
    h2 = h1 + 4 + 4 * length down

    abbrev h3 : ℕ
    h3 = h2 + 4 * length (resolved at h2 copies)

    stood : Stood at C P s.mem s.pc 0 (items ++ saves mask)
    unfolding prologue
    stood =
        let e : w64 (s.pc + 0) ≡ s.pc = omega (arith, c.sound.pc) in
        record {
          words = record { code = rw e c.code; off = rw e c.code_apart; short = omega (arith, c.code_fits); even = omega (arith, c.start); inside = λ k l. (k, l, omega arith) };
          labels = c.labels;
        }

    st0 : Stood at C P s.mem s.pc 0 (code first ++ (jump Beq at_main 0 ∷ (code down ++ (copies ++ up))))
    st0 = behind_label 0 at_self _ (stood_left 0 items (saves mask) stood)

    st1 : Stood at C P s.mem s.pc h1 (jump Beq at_main 0 ∷ (code down ++ (copies ++ up)))
    st1 = behind 0 first _ st0

    st2 : Stood at C P s.mem s.pc (h1 + 4) (code down ++ (copies ++ up))
    st2 = behind_jump h1 Beq at_main 0 _ st1

    st3 : Stood at C P s.mem s.pc h2 (copies ++ up)
    st3 = behind (h1 + 4) down _ st2

    st4 : Stood at C P s.mem s.pc h3 up
    st4 = stood_right h2 copies up st3

    -- how far the branch goes
    abbrev way : ℕ
    way = 1 + length down + length (resolved at h2 copies)

    short_way : way < 1024
    short_way =
        omega (arith, length-append (sub_stack_code fs) (mv 9 2 ∷ Shift SLLI 19 19 (pos 3) ∷ []), sub_stack_length fs, repeated_words at h2 states at_pro (mv 6 9 ∷ []) state_copy refl)

    branch : Words C P s.mem (s.pc + h1) (encode (over way) ∷ [])
    branch =
        let e : at at_main ≡ h1 + 4 * way = st4.labels.0 ∙ omega arith in
        rw (e, forward h1 way) at (jump_word h1 Beq at_main 0 _ st1)

    -- ---- the opening and the arguments

    fp_even : fp % 8 ≡ 0
    fp_even = by (eqb (s.x 11) 0)
      where
        by : (z : Bool) → (bottom + (ss + cond (not z) fs 0)) % 8 ≡ 0
        by true = omega (arith, c.frame_aligned)
        by false = omega (arith, c.frame_aligned)

    one : (v : State) × Begun Q (In fp (fp + 64)) Indirect fp s v
    one = begun Q Indirect fp s c.sound (omega (arith, top)) top fp_even (c.sp ∙ omega arith)

    one_in : (x : ℕ) → In fp (fp + 64) x → P x
    one_in x p = omega (arith, p)

    abbrev two : State
    two = execs Q moves one.0

    -- where an argument went
    arg : (r : ℕ) → T (not (eqb r 2 || (eqb r 5 || eqb r 8))) → one.0.x r ≡ s.x r
    arg r h = one.1.x r h

    args : (two.x 9 ≡ s.x 10) × (two.x 18 ≡ s.x 11) × (two.x 19 ≡ s.x 12) × (two.x 20 ≡ s.x 13)
    args =
        let small : (r : ℕ) → T (not (eqb r 2 || (eqb r 5 || eqb r 8))) → one.0.x r < 2 ^ 64 = λ r h. rw (arg r h) (c.sound.x r) in
        let m = moved_to Q P one.0 (small 10 tt) (small 11 tt) (small 12 tt) (small 13 tt) in
        (m.0 ∙ arg 10 tt, m.1 ∙ arg 11 tt, m.2 ∙ arg 12 tt, m.3 ∙ arg 13 tt)

    came1 : Came Q C P s (s.pc + h1) 13 two
    came1 =
        came_at (omega arith) (omega (arith, thirteen))
        (onward_seg first (s.pc + 0) 0 s (piece 0 first _ st0) (record { runs = no_step Q; same = λ x l o. refl; pc = omega (arith, c.sound.pc) }) (seg_join {is = opening Indirect} (seg_wider one_in one.1.seg) (moved Q P one.0).0))

    abbrev past : State
    past = exec Q (over way) two

    came2 : (b : ℕ) → past.pc ≡ w64 b → Came Q C P s b 14 past
    came2 b p = hop (over way) (s.pc + h1) b 13 two branch came1 (omega (arith, short_way)) tt (over_keeps Q two way).2 p

    -- registers there
    past_x : (r : ℕ) → T (not (move_regs r)) → past.x r ≡ one.0.x r
    past_x r h = ap (λ (x : ℕ → ℕ). x r) (over_keeps Q two way).0 ∙ moved_x Q P one.0 r h

    -- what lies below the registers' places
    early : (a : ℕ) → a + 8 ≤ fp → load8 one.0.mem a ≡ load8 s.mem a
    early a h = load8_same (In fp (fp + 64)) one.0.mem s.mem a (seg_same one.1.seg) (off_below fp (fp + 64) a h (omega (arith, top)))

    -- ---- at `@main`, whichever way it was reached

    record Main (k : ℕ) (w : State) : Type 0 where
      came : Came Q C P s (s.pc + h3) k w
      sp : w.x 2 ≡ base
      s0 : w.x 8 ≡ fp
      s1 : w.x 9 ≡ mem_at H s bottom
      s2 : w.x 18 ≡ cond (eqb (s.x 11) 0) 0 (w64 (s.x 11 + 16 * states))
      s3 : w.x 19 ≡ cond (eqb (s.x 11) 0) (s.x 12) (w64 (8 * s.x 12))
      s4 : w.x 20 ≡ s.x 13
      others : (r : ℕ) → T (not (sets Indirect r)) → w.x r ≡ s.x r
      f : w.f ≡ start_f H s states
      places : (i : ℕ) → i < 7 → load8 w.mem (fp + 8 * i) ≡ s.x (get_or (kept Indirect) i 0)
      under : (a : ℕ) → a + 8 ≤ base → load8 w.mem a ≡ load8 s.mem a
      -- where the table is used
      rest : s.x 11 ≢ 0 → (i : ℕ) → states ≤ i → i < states + obs → load8 w.mem (base + 8 * i) ≡ load8 s.mem (base + 8 * i)
      cells : s.x 11 ≢ 0 → (i : ℕ) → i < states → load8 w.mem (base + 8 * i) ≡ load8 s.mem (table_cell H s i)

    -- a1 is zero
    jumped : eqb (s.x 11) 0 ≡ true → (w : State) × Main 14 w
    jumped e =
        let z : s.x 11 ≡ 0 = eqb-true (s.x 11) 0 e in
        let m : ms ≡ 0 = rw e refl in (
          past,
          record {
            came = came2 (s.pc + h3) (over_goes Q two way (s.pc + h1) came1.pc (args.1 ∙ z) ∙ omega arith);
            sp = past_x 2 tt ∙ one.1.sp ∙ omega (arith, m);
            s0 = past_x 8 tt ∙ one.1.s0;
            s1 = rw e (ap (λ (x : ℕ → ℕ). x 9) (over_keeps Q two way).0 ∙ args.0);
            s2 = rw e (ap (λ (x : ℕ → ℕ). x 18) (over_keeps Q two way).0 ∙ args.1 ∙ z);
            s3 = rw e (ap (λ (x : ℕ → ℕ). x 19) (over_keeps Q two way).0 ∙ args.2);
            s4 = ap (λ (x : ℕ → ℕ). x 20) (over_keeps Q two way).0 ∙ args.3;
            others = λ r h. let k = clear r h in past_x r k.1 ∙ arg r k.0;
            f = (over_keeps Q two way).1 ∙ (moved Q P one.0).1 ∙ one.1.f ∙ sym (start_unused H s states (rw e refl));
            places = λ i h. rw ((over_keeps Q two way).2, (moved Q P one.0).2) (one.1.places i h);
            under = λ a h. rw ((over_keeps Q two way).2, (moved Q P one.0).2) (early a (omega arith));
            rest = λ n. absurd (n z);
            cells = λ n. absurd (n z);
          },
        )

    -- a1 isn't zero: `mem` in the frame, and 8 × a2
    module _ (e : eqb (s.x 11) 0 ≡ false) where
      not_zero : s.x 11 ≢ 0
      not_zero = eqb-false (s.x 11) 0 e

      used : T (not (eqb (s.x 11) 0))
      used = rw e tt

      ms_is : ms ≡ fs
      ms_is = rw e refl

      fall : Came Q C P s (s.pc + (h1 + 4)) 14 past
      fall = came2 (s.pc + (h1 + 4)) (over_stays Q two way (s.pc + h1) came1.pc (λ z. not_zero (sym args.1 ∙ z)) ∙ omega arith)

      low : (v : State) × Lowered Q P (sub_stack_code fs ++ (mv 9 2 ∷ [])) 9 base past v
      low = down_to Q P 9 base fs (omega arith) (λ z. omega arith) (λ z. omega arith) (omega (arith, sizes)) past (past_x 2 tt ∙ one.1.sp ∙ omega (arith, ms_is, top)) (omega (arith, top))

      abbrev eight : Instr
      eight = Shift SLLI 19 19 (pos 3)

      abbrev three : State
      three = exec Q eight low.0

      three_x : (r : ℕ) → T (not (eqb r 19)) → three.x r ≡ low.0.x r
      unfolding effect
      three_x r h = execs_x Q (λ r. eqb r 19) (eight ∷ []) low.0 r tt h

      three_does : Seg Q P (eight ∷ []) low.0 three × (three.f ≡ low.0.f) × (three.mem ≡ low.0.mem) × (three.x 19 ≡ w64 (low.0.x 19 * 8))
      unfolding effect apply setx upd
      three_does = (record { fit = omega arith; lands = omega arith; end = refl }, refl, refl, refl)

      came3 : Came Q C P s (s.pc + h2) (14 + (length (sub_stack_code fs) + 2)) three
      came3 =
          let k = length-append (sub_stack_code fs) (mv 9 2 ∷ eight ∷ []) in
          came_at (omega arith) (omega (arith, k))
          (onward_seg down (s.pc + (h1 + 4)) 14 past (piece (h1 + 4) down _ st2) fall (rw (append_assoc (sub_stack_code fs) (mv 9 2 ∷ []) (eight ∷ [])) at (seg_join {is = sub_stack_code fs ++ (mv 9 2 ∷ [])} low.1.seg three_does.0)))

      three_f : three.f ≡ s.f
      three_f = three_does.1 ∙ low.1.f ∙ (over_keeps Q two way).1 ∙ (moved Q P one.0).1 ∙ one.1.f

      three_mem : three.mem ≡ one.0.mem
      three_mem = three_does.2 ∙ low.1.mem ∙ (over_keeps Q two way).2 ∙ (moved Q P one.0).2

      -- s0, s1, s2, s3, s4 and sp
      three_regs : (three.x 2 ≡ base) × (three.x 8 ≡ fp) × (three.x 9 ≡ base) × (three.x 18 ≡ s.x 11) × (three.x 19 ≡ w64 (8 * s.x 12)) × (three.x 20 ≡ s.x 13)
      three_regs =
          let o : (r : ℕ) → two.x r ≡ past.x r = λ r. sym (ap (λ (x : ℕ → ℕ). x r) (over_keeps Q two way).0) in
          let i : low.0.x 19 ≡ s.x 12 = low.1.x 19 tt ∙ sym (o 19) ∙ args.2 in (
            three_x 2 tt ∙ low.1.sp,
            three_x 8 tt ∙ low.1.x 8 tt ∙ past_x 8 tt ∙ one.1.s0,
            three_x 9 tt ∙ low.1.copy,
            three_x 18 tt ∙ low.1.x 18 tt ∙ sym (o 18) ∙ args.1,
            three_does.3 ∙ omega (arith, i),
            three_x 20 tt ∙ low.1.x 20 tt ∙ sym (o 20) ∙ args.3,
          )

      three_others : (r : ℕ) → T (not (sets Indirect r)) → three.x r ≡ s.x r
      three_others r h = let k = clear r h in three_x r k.5 ∙ low.1.x r k.3 ∙ past_x r k.1 ∙ arg r k.0

      -- ---- the states

      abbrev Done : ℕ → State → Type 0
      Done = Copied Q P s.mem three.mem three.x s.f base states (s.x 11) (8 * s.x 12) states

      abbrev four : State
      four = exec Q (mv 6 9) three

      started : Seg Q P (mv 6 9 ∷ []) three four × Done 0 four
      started =
          let r = three_regs in
          begin Q P s.mem s.f base states (s.x 11) (8 * s.x 12) states three r.2 r.3 r.4 three_f (omega (arith, top)) (c.sound.x 11)

      before : Same P three.mem s.mem
      before = came3.same

      again : (i : ℕ) (u : State) → i < states → Done i u → Round Q P state_copy states Done i u
      again =
          round Q P s.mem three.mem three.x s.f base states (s.x 11) (8 * s.x 12) states (omega (arith, top, sizes, ms_is)) (omega arith)
          (λ x p. omega (arith, p, sizes, ms_is)) before c.sound.mem (λ x b d. c.table_apart used x b (omega arith)) (omega (arith, few)) (c.states_apart used) (omega (arith, c.frame_aligned)) (c.table_aligned used) (c.states_aligned used)

      abbrev steps : ℕ
      steps = 14 + (length (sub_stack_code fs) + 2 + repeated_steps states 1)

      copied : states ≢ 0 → (w : State) × Came Q C P s (s.pc + h3) (14 + (length (sub_stack_code fs) + 2) + repeated_steps states 1) w × Done states w
      copied n =
          repeat Q P state_copy states Done C refl again (copied_free Q P s.mem three.mem three.x s.f base states (s.x 11) (8 * s.x 12) states) at s.pc s h2 (14 + (length (sub_stack_code fs) + 2)) at_pro three four (mv 6 9 ∷ []) n (omega (arith, few)) came3 started.0 started.1
          (stood_left h2 copies up st3)

      abbrev States : ℕ → Type 0
      States = In base (base + 8 * states)

      some : states ≢ 0 → (w : State) × Main steps w
      some n =
          let q = copied n in
          let past_states : (a : ℕ) → Off States a 8 → load8 q.0.mem a ≡ load8 three.mem a = λ a o. load8_same States q.0.mem three.mem a q.2.same o in
          let d = q.2 in
          let r = three_regs in (
            q.0,
            record {
              came = came_at refl (omega arith) q.1;
              sp = d.x 2 tt ∙ r.0;
              s0 = d.x 8 tt ∙ r.1;
              s1 = rw e (d.x 9 tt ∙ r.2);
              s2 = rw e d.s2;
              s3 = rw e d.s3;
              s4 = d.x 20 tt ∙ r.5;
              others = λ k h. d.x k (clear k h).2 ∙ three_others k h;
              f = d.f ∙ rw (start_last H s states n, e) (floats_last Q P s.mem s.f base states (s.x 11) (8 * s.x 12) states three states n);
              places = λ i h. past_states (fp + 8 * i) (off_above base (base + 8 * states) (fp + 8 * i) (omega (arith, sizes, ms_is)) (omega (arith, top))) ∙ rw three_mem (one.1.places i h);
              under = λ a h. past_states a (off_below base (base + 8 * states) a h (omega (arith, top))) ∙ rw three_mem (early a (omega arith));
              rest = λ z i h l. past_states (base + 8 * i) (off_above base (base + 8 * states) (base + 8 * i) (omega arith) (omega (arith, top, sizes, ms_is))) ∙ rw three_mem (early (base + 8 * i) (omega (arith, sizes, ms_is)));
              cells = λ z i h. d.cells i h;
            },
          )

      none : eqb states 0 ≡ true → (w : State) × Main steps w
      none z =
          let r = three_regs in
          let n : states ≡ 0 = eqb-true states 0 z in
          let empty = repeated_none at h2 states at_pro (mv 6 9 ∷ []) state_copy refl z in (
            three,
            record {
              came = came_at (omega (arith, empty)) (rw z (omega arith)) came3;
              sp = r.0;
              s0 = r.1;
              s1 = rw e r.2;
              s2 = rw e (r.3 ∙ omega (arith, n, c.sound.x 11));
              s3 = rw e r.4;
              s4 = r.5;
              others = three_others;
              f = three_f ∙ ap (start_f H s) (sym n);
              places = λ i h. rw three_mem (one.1.places i h);
              under = λ a h. rw three_mem (early a (omega arith));
              rest = λ y i h l. rw three_mem (early (base + 8 * i) (omega (arith, sizes, ms_is)));
              cells = λ y i h. absurd (omega (arith, n));
            },
          )

      table : (w : State) × Main steps w
      table = by (eqb states 0) refl
        where
          by : (z : Bool) → eqb states 0 ≡ z → (w : State) × Main steps w
          by true z = none z
          by false z = some (eqb-false states 0 z)

    abbrev main_steps : Bool → ℕ
    main_steps z = 14 + cond z 0 (length (sub_stack_code fs) + 2 + repeated_steps states 1)

    main : (w : State) × Main (main_steps (eqb (s.x 11) 0)) w
    main = by (eqb (s.x 11) 0) refl
      where
        by : (z : Bool) → eqb (s.x 11) 0 ≡ z → (w : State) × Main (main_steps z) w
        by true z = jumped z
        by false z = table z

    -- ---- `stack` and the saves

    low_sp : (v : State) × Lowered Q P (allocate_stack_code ss) 21 bottom main.0 v
    low_sp = allocate_to Q P bottom ss (omega (arith, sizes)) main.0 (main.1.sp ∙ omega (arith, top)) (omega (arith, top))

    came5 : Came Q C P s (s.pc + h3 + 4 * length (allocate_stack_code ss)) (main_steps (eqb (s.x 11) 0) + length (allocate_stack_code ss)) low_sp.0
    came5 = onward_seg (allocate_stack_code ss) (s.pc + h3) (main_steps (eqb (s.x 11) 0)) main.0 (stood_code h3 (allocate_stack_code ss) (behind_label h3 at_main _ st4)) main.1.came low_sp.1.seg

    six : (v : State) × Stored Q bottom cap (map save (saved mask)) low_sp.0 v × ((r : ℕ) → Memᴰ r (saved mask) → load8 v.mem (bottom + 8 * save_cell r) ≡ low_sp.0.f r) × ((c : ℕ) → c < cap → ((r : ℕ) → Memᴰ r (saved mask) → save_cell r ≢ c) → load8 v.mem (bottom + 8 * c) ≡ load8 low_sp.0.mem (bottom + 8 * c))
    six = saves_stored Q bottom cap mask low_sp.0 low_sp.1.copy (omega (arith, sizes, top)) (omega (arith, c.frame_aligned)) c.room_for_saves (run_sound Q came5.runs.runs c.sound).f

    words_before : 4 * length (resolved at 0 items) ≡ h3 + 4 * length (allocate_stack_code ss)
    unfolding resolved
    words_before =
        rw (resolved_code at 0 first (jump Beq at_main 0 ∷ (code down ++ (copies ++ up))), length-append (map encode first) (resolved at h1 (jump Beq at_main 0 ∷ (code down ++ (copies ++ up)))), length-map first encode, resolved_code at (h1 + 4) down (copies ++ up))
        (rw (length-append (map encode down) (resolved at h2 (copies ++ up)), length-map down encode, resolved_append at h2 copies up, length-append (resolved at h2 copies) (resolved at h3 up), resolved_instrs at h3 (allocate_stack_code ss), length-map (allocate_stack_code ss) encode)
        (omega arith))

    abbrev row : List Instr
    row = map save (saved mask)

    saves_stood : Words C P s.mem (s.pc + (h3 + 4 * length (allocate_stack_code ss))) (map encode row)
    unfolding saves
    saves_stood =
        rw (zero-add (4 * length (resolved at 0 items)), words_before)
        at (stood_code (0 + 4 * length (resolved at 0 items)) row (stood_right 0 items (code row) stood))

    came6 : Came Q C P s (s.pc + (h3 + 4 * length (allocate_stack_code ss)) + 4 * length row) (main_steps (eqb (s.x 11) 0) + length (allocate_stack_code ss) + length row) six.0
    came6 =
        onward_seg row (s.pc + (h3 + 4 * length (allocate_stack_code ss))) (main_steps (eqb (s.x 11) 0) + length (allocate_stack_code ss)) low_sp.0 saves_stood (came_at (omega arith) refl came5)
        (seg_wider (λ x p. omega (arith, p, sizes)) six.1.seg)

    words_all : length (resolved at 0 (prologue H ++ saves mask)) ≡ length (resolved at 0 items) + length row
    unfolding prologue saves
    words_all =
        rw (resolved_append at 0 items (code row), length-append (resolved at 0 items) (resolved at (0 + 4 * length (resolved at 0 items)) (code row)), resolved_instrs at (0 + 4 * length (resolved at 0 items)) row, length-map row encode)

    abbrev end : State
    end = six.0

    -- from `@main` on
    since : (r : ℕ) → T (not (eqb r 2 || (eqb r 5 || eqb r 21))) → end.x r ≡ main.0.x r
    since r h = ap (λ (x : ℕ → ℕ). x r) six.1.x ∙ low_sp.1.x r h

    -- what lies above `stack`
    above : (a : ℕ) → bottom + 8 * cap ≤ a → a + 8 ≤ 2 ^ 64 → load8 end.mem a ≡ load8 main.0.mem a
    above a h l = load8_same (In bottom (bottom + 8 * cap)) end.mem low_sp.0.mem a (seg_same six.1.seg) (off_above bottom (bottom + 8 * cap) a h l) ∙ rw low_sp.1.mem

    -- the block is off the frame
    block : eqb (s.x 11) 0 ≡ true → (i : ℕ) → i < states + obs → load8 end.mem (w64 (s.x 10 + 8 * i)) ≡ load8 s.mem (w64 (s.x 10 + 8 * i))
    block z i h =
        let b : T (not (not (eqb (s.x 11) 0))) = rw z tt in
        load8_same P end.mem s.mem (w64 (s.x 10 + 8 * i)) came6.same (off_part P (s.x 10) (8 * (states + obs)) (8 * i) (c.block_apart b) (omega arith) (omega (arith, few)))

    -- a cell of `mem` in the frame
    cell_at : eqb (s.x 11) 0 ≡ false → (i : ℕ) → i < states + obs → (w64 (base + 8 * i) ≡ base + 8 * i) × (load8 end.mem (base + 8 * i) ≡ load8 main.0.mem (base + 8 * i))
    cell_at z i h = (omega (arith, top, sizes, ms_is z), above (base + 8 * i) (omega (arith, sizes)) (omega (arith, top, sizes, ms_is z)))

    state : (i : ℕ) → i < states → load8 end.mem (w64 (mem_at H s bottom + 8 * i)) ≡ state_value H s Indirect i
    state i h = by (eqb (s.x 11) 0) refl
      where
        by : (z : Bool) → eqb (s.x 11) 0 ≡ z → load8 end.mem (w64 (mem_at H s bottom + 8 * i)) ≡ state_value H s Indirect i
        by true z = rw z (block z i (omega arith))
        by false z = let g = cell_at z i (omega arith) in rw (z, g.0) (g.1 ∙ main.1.cells (eqb-false (s.x 11) 0 z) i h)

    unwritten : (i : ℕ) → states ≤ i → i < states + obs → load8 end.mem (w64 (mem_at H s bottom + 8 * i)) ≡ load8 s.mem (w64 (mem_at H s bottom + 8 * i))
    unwritten i h l = by (eqb (s.x 11) 0) refl
      where
        by : (z : Bool) → eqb (s.x 11) 0 ≡ z → load8 end.mem (w64 (mem_at H s bottom + 8 * i)) ≡ load8 s.mem (w64 (mem_at H s bottom + 8 * i))
        by true z = rw z (block z i l)
        by false z = let g = cell_at z i l in rw (z, g.0) (g.1 ∙ main.1.rest (eqb-false (s.x 11) 0 z) i h l)

    unsaved : (i : ℕ) → i < cap → ((r : ℕ) → Memᴰ r (saved mask) → save_cell r ≢ i) → load8 end.mem (bottom + 8 * i) ≡ load8 s.mem (bottom + 8 * i)
    unsaved i h o = six.3 i h o ∙ rw low_sp.1.mem (main.1.under (bottom + 8 * i) (omega (arith, sizes)))

    pub ready : (v : State) × PrologueDone Q H at s bottom v
    ready = (
      end,
      record {
        runs = subst (λ (k : ℕ). RunIn Q C s k end) (omega (arith, length-map (saved mask) save)) came6.runs;
        pc = came6.pc ∙ ap (λ (b : ℕ). b % 2 ^ 64) (omega (arith, words_all, words_before));
        sp = ap (λ (x : ℕ → ℕ). x 2) six.1.x ∙ low_sp.1.sp;
        s5 = ap (λ (x : ℕ → ℕ). x 21) six.1.x ∙ low_sp.1.copy;
        s0 = since 8 tt ∙ main.1.s0;
        s1 = since 9 tt ∙ main.1.s1;
        s2 = λ h. since 18 tt ∙ main.1.s2;
        s3 = λ h. since 19 tt ∙ main.1.s3;
        s4 = λ h. since 20 tt ∙ main.1.s4;
        others = λ r h. since r (clear r h).4 ∙ main.1.others r h;
        places = λ i h. above (fp + 8 * i) (omega (arith, sizes)) (omega (arith, top)) ∙ main.1.places i h;
        states = state;
        mem_cells = unwritten;
        stack_cells = unsaved;
        saved_cells = λ r m. six.2 r m ∙ ap (λ (f : ℕ → ℕ). f r) (low_sp.1.f ∙ main.1.f) ∙ start_other H s states r (not_ten mask r m);
        f = six.1.f ∙ low_sp.1.f ∙ main.1.f;
        rm = run_rm came6.runs.runs;
        mem = came6.same;
      },
    )
