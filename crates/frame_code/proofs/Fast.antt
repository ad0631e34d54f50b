-- Prologue and saves of a fast frame.
use mathlib.Core.Path.{◌≡◌, refl, ap, sym, subst, ◌∙◌}
use mathlib.Core.Logic.{◌≢◌}
use mathlib.Core.Bool.{Bool, not, ◌||◌}
use mathlib.Core.List.{List, [], ◌∷◌, ◌++◌, map, Memᴰ, append_assoc}
use Prim.Native.Nat.{ℕ, zero, suc, ◌+◌, ◌*◌, ◌^◌, ◌≤◌, ◌<◌}
use native.Mathlib.Omega.{arith}
use lib.Dec.{T, eqb, leb, leb→le}
use lib.ListN.{length, length-append, length-map, get_or}
use Rattle.isa.specs.Instr.{Instr}
use Rattle.isa.specs.Encode.{encode}
use Rattle.machine.specs.Word.{w64, load8}
use Rattle.machine.specs.Floats.{Floats}
use Rattle.machine.specs.State.{State}
use Rattle.machine.specs.Step.{Among, RunIn}
use Rattle.base.proofs.Bools.{and_l, and_r}
use Rattle.machine.proofs.Runs.{no_step}
use Rattle.machine.proofs.Stores.{Off}
use Rattle.ast.specs.declared.Frame.TheVariants.{Fast}
use Rattle.ast.specs.declared.Head.{Head}
use Rattle.assembler.specs.Resolved.{resolved}
use Rattle.accesses.specs.Code.{sub_stack_code}
use Rattle.reading.specs.Size.{frame_size, stack_size}
use Rattle.ast.specs.Mask.{saved, save_cell}
use Rattle.frame_code.specs.Items.{mv, kept, opening, states_from, save, prologue, saves}
use Rattle.frame_code.proofs.Land.{In, load8_same, off_above, off_below, not_or, or_not}
use Rattle.frame_code.proofs.Walk.{resolved_instrs, code_append, Words, Came, run_rm}
use Rattle.frame_code.proofs.Seg.{Seg, seg_join, seg_wider, seg_same, onward_seg, Lowered, down_to, Begun, begun}
use Rattle.frame_code.proofs.Rows.{Stored, states_stored, saves_stored}
use Rattle.frame_code.specs.Steps.{prologue_steps}
use Rattle.reading.proofs.Start.{start_unused}
use Rattle.frame_code.proofs.Ends.{FrameAt, PrologueTerms, PrologueDone, sets}

lengths : (o a b c d : List Instr) (m n : Instr) → length ((o ++ (a ++ (m ∷ (b ++ (n ∷ c))))) ++ d) ≡ length o + (length a + suc (length b + suc (length c))) + length d
lengths o a b c d m n =
    omega (arith, length-append (o ++ (a ++ (m ∷ (b ++ (n ∷ c))))) d, length-append o (a ++ (m ∷ (b ++ (n ∷ c)))), length-append a (m ∷ (b ++ (n ∷ c))), length-append b (n ∷ c))

six : length (opening Fast) ≡ 6
unfolding sub_stack_code
six = refl

pub states_length : (i k : ℕ) → length (states_from i k) ≡ k
states_length i zero = refl
states_length i (suc k) = ap suc (states_length (suc i) k)

module _ (Q : Floats) (cap states obs last mask : ℕ) (at : ℕ → ℕ) (s : State) (bottom : ℕ) where
  abbrev H : Head
  H = record { frame = Fast; cap = cap; states = states; obs = obs; last = last; mask = mask }

  module _ (c : PrologueTerms H at s bottom) where
    abbrev fs : ℕ
    fs = frame_size H

    abbrev ss : ℕ
    ss = stack_size H

    abbrev fp : ℕ
    fp = bottom + (ss + fs)

    few : (cap ≤ 4096) × (states + obs ≤ 4096) × (states ≤ 8)
    few =
        let h = c.counts in
        let k = and_r (leb cap 4096) _ h in
        (leb→le cap 4096 (and_l (leb cap 4096) _ h), leb→le (states + obs) 4096 (and_l (leb (states + obs) 4096) _ k), leb→le states 8 (and_r (leb (states + obs) 4096) _ k))

    -- sizes hold their cells
    sizes : (8 * (states + obs) ≤ fs) × (fs ≤ 40000) × (8 * cap ≤ ss) × (ss ≤ 40000) × (16 ≤ ss)
    sizes = let h = few in omega arith

    top : fp + 32 ≤ 2 ^ 64
    top = omega (arith, c.fits)

    abbrev P : ℕ → Type 0
    P = FrameAt H s bottom

    abbrev C : ℕ → Type 0
    C = Among s.pc (length (resolved at 0 (prologue H ++ saves mask)))

    -- the opening, `mem`, `stack`, the states, the saves
    one : (v : State) × Begun Q (In fp (fp + 32)) Fast fp s v
    one = begun Q Fast fp s c.sound (omega (arith, top)) top (omega (arith, c.frame_aligned)) (c.sp ∙ omega arith)

    two : (v : State) × Lowered Q P (sub_stack_code fs ++ (mv 9 2 ∷ [])) 9 (bottom + ss) one.0 v
    two = down_to Q P 9 (bottom + ss) fs (omega arith) (λ z. omega arith) (λ z. omega arith) (omega (arith, sizes)) one.0 (one.1.sp ∙ omega (arith, top)) (omega (arith, top))

    three : (v : State) × Lowered Q P (sub_stack_code ss ++ (mv 21 2 ∷ [])) 21 bottom two.0 v
    three = down_to Q P 21 bottom ss (omega arith) (λ z. omega arith) (λ z. omega arith) (omega (arith, sizes)) two.0 (two.1.sp ∙ omega (arith, top)) (omega (arith, top))

    same_f : three.0.f ≡ s.f
    same_f = three.1.f ∙ two.1.f ∙ one.1.f

    four : (v : State) × Stored Q (bottom + ss) states (states_from 0 states) three.0 v × ((i : ℕ) → i < states → load8 v.mem (bottom + ss + 8 * i) ≡ three.0.f (10 + i))
    four = states_stored Q (bottom + ss) states states three.0 (three.1.x 9 tt ∙ two.1.copy) (omega (arith, sizes, top)) (omega (arith, c.frame_aligned)) few.2 (omega arith) (λ r. rw same_f (c.sound.f r))

    five : (v : State) × Stored Q bottom cap (map save (saved mask)) four.0 v × ((r : ℕ) → Memᴰ r (saved mask) → load8 v.mem (bottom + 8 * save_cell r) ≡ four.0.f r) × ((c : ℕ) → c < cap → ((r : ℕ) → Memᴰ r (saved mask) → save_cell r ≢ c) → load8 v.mem (bottom + 8 * c) ≡ load8 four.0.mem (bottom + 8 * c))
    five =
        saves_stored Q bottom cap mask four.0 (ap (λ (x : ℕ → ℕ). x 21) four.1.x ∙ three.1.copy) (omega (arith, sizes, top)) (omega (arith, c.frame_aligned)) c.room_for_saves
        (λ r. rw (four.1.f, same_f) (c.sound.f r))

    abbrev tail : List Instr
    tail = sub_stack_code ss ++ (mv 21 2 ∷ states_from 0 states)

    abbrev straight : List Instr
    straight = opening Fast ++ (sub_stack_code fs ++ (mv 9 2 ∷ tail))

    whole : Seg Q P (straight ++ map save (saved mask)) s five.0
    whole =
        seg_join
        (seg_join (seg_wider (λ x p. omega (arith, p)) one.1.seg)
        (rw (append_assoc (sub_stack_code fs) (mv 9 2 ∷ []) tail) at (seg_join two.1.seg
        (rw (append_assoc (sub_stack_code ss) (mv 21 2 ∷ []) (states_from 0 states)) at (seg_join three.1.seg (seg_wider (λ x p. omega (arith, p, sizes)) four.1.seg))))))
        (seg_wider (λ x p. omega (arith, p, sizes)) five.1.seg)

    words_are : resolved at 0 (prologue H ++ saves mask) ≡ map encode (straight ++ map save (saved mask))
    unfolding prologue saves
    words_are = rw (code_append straight (map save (saved mask))) (resolved_instrs at 0 (straight ++ map save (saved mask)))

    stand : Words C P s.mem s.pc (map encode (straight ++ map save (saved mask)))
    stand =
        let e : w64 s.pc ≡ s.pc = omega (arith, c.sound.pc) in
        record {
          code = rw (e, ← words_are) c.code;
          off = rw (e, ← words_are) c.code_apart;
          short = rw (← words_are) (omega (arith, c.code_fits));
          even = c.start;
          inside = λ k l. (k, rw words_are l, refl);
        }

    came : Came Q C P s (s.pc + 4 * length (straight ++ map save (saved mask))) (0 + length (straight ++ map save (saved mask))) five.0
    came = onward_seg (straight ++ map save (saved mask)) s.pc 0 s stand (record { runs = no_step Q; same = λ x l o. refl; pc = omega (arith, c.sound.pc) }) whole

    count : 0 + length (straight ++ map save (saved mask)) ≡ prologue_steps H Fast (s.x 11)
    count =
        let n : length (map save (saved mask)) ≡ length (saved mask) = length-map (saved mask) save in
        omega (arith, lengths (opening Fast) (sub_stack_code fs) (sub_stack_code ss) (states_from 0 states) (map save (saved mask)) (mv 9 2) (mv 21 2), six, states_length 0 states)

    abbrev end : State
    end = five.0

    five_x : end.x ≡ three.0.x
    five_x = five.1.x ∙ four.1.x

    reg : (r : ℕ) → T (not (sets Fast r)) → end.x r ≡ s.x r
    reg r h =
        let p2 = not_or (eqb r 2) _ h in
        let p5 = not_or (eqb r 5) _ p2.1 in
        let p8 = not_or (eqb r 8) _ p5.1 in
        let p9 = not_or (eqb r 9) _ p8.1 in
        let only : (b : Bool) → T (not b) → T (not (eqb r 2 || (eqb r 5 || b))) = λ b k. or_not (eqb r 2) _ p2.0 (or_not (eqb r 5) b p5.0 k) in
        ap (λ (x : ℕ → ℕ). x r) five_x ∙ three.1.x r (only (eqb r 21) p9.1) ∙ two.1.x r (only (eqb r 9) p9.0) ∙ one.1.x r (only (eqb r 8) p8.0)

    -- what the saves, the states and the opening leave
    late : (a : ℕ) → bottom + 8 * cap ≤ a → a + 8 ≤ 2 ^ 64 → load8 end.mem a ≡ load8 four.0.mem a
    late a h l = load8_same (In bottom (bottom + 8 * cap)) end.mem four.0.mem a (seg_same five.1.seg) (off_above bottom (bottom + 8 * cap) a h l)

    abbrev States : ℕ → Type 0
    States = In (bottom + ss) (bottom + ss + 8 * states)

    mid : (a : ℕ) → Off States a 8 → load8 four.0.mem a ≡ load8 three.0.mem a
    mid a o = load8_same States four.0.mem three.0.mem a (seg_same four.1.seg) o

    early : (a : ℕ) → a + 8 ≤ fp → load8 three.0.mem a ≡ load8 s.mem a
    early a h = rw (three.1.mem, two.1.mem) (load8_same (In fp (fp + 32)) one.0.mem s.mem a (seg_same one.1.seg) (off_below fp (fp + 32) a h (omega (arith, top))))

    -- places of registers lie above all cells
    place : (i : ℕ) → i < 4 → load8 end.mem (fp + 8 * i) ≡ s.x (get_or (kept Fast) i 0)
    place i h =
        late (fp + 8 * i) (omega (arith, sizes)) (omega (arith, top))
        ∙ mid (fp + 8 * i) (off_above (bottom + ss) (bottom + ss + 8 * states) (fp + 8 * i) (omega (arith, sizes)) (omega (arith, top)))
        ∙ rw (three.1.mem, two.1.mem) (one.1.places i h)

    state : (i : ℕ) → i < states → load8 end.mem (w64 (bottom + ss + 8 * i)) ≡ s.f (10 + i)
    state i h =
        let e : w64 (bottom + ss + 8 * i) ≡ bottom + ss + 8 * i = omega (arith, sizes, top) in
        rw e (late (bottom + ss + 8 * i) (omega (arith, sizes)) (omega (arith, sizes, top)) ∙ four.2 i h ∙ ap (λ (f : ℕ → ℕ). f (10 + i)) same_f)

    unwritten : (i : ℕ) → states ≤ i → i < states + obs → load8 end.mem (w64 (bottom + ss + 8 * i)) ≡ load8 s.mem (w64 (bottom + ss + 8 * i))
    unwritten i h l =
        let a = bottom + ss + 8 * i in
        let e : w64 (bottom + ss + 8 * i) ≡ bottom + ss + 8 * i = omega (arith, sizes, top) in
        rw e
        (late a (omega (arith, sizes)) (omega (arith, sizes, top)) ∙ mid a (off_above (bottom + ss) (bottom + ss + 8 * states) a (omega arith) (omega (arith, sizes, top))) ∙ early a (omega (arith, sizes)))

    unsaved : (i : ℕ) → i < cap → ((r : ℕ) → Memᴰ r (saved mask) → save_cell r ≢ i) → load8 end.mem (bottom + 8 * i) ≡ load8 s.mem (bottom + 8 * i)
    unsaved i h o =
        five.3 i h o ∙ mid (bottom + 8 * i) (off_below (bottom + ss) (bottom + ss + 8 * states) (bottom + 8 * i) (omega (arith, sizes)) (omega (arith, sizes, top))) ∙ early (bottom + 8 * i) (omega (arith, sizes))

    pub ready : (v : State) × PrologueDone Q H at s bottom v
    ready = (
      end,
      record {
        runs = subst (λ (k : ℕ). RunIn Q C s k five.0) count came.runs;
        pc = came.pc ∙ rw (words_are, length-map (straight ++ map save (saved mask)) encode);
        sp = ap (λ (x : ℕ → ℕ). x 2) five_x ∙ three.1.sp;
        s5 = ap (λ (x : ℕ → ℕ). x 21) five_x ∙ three.1.copy;
        s0 = ap (λ (x : ℕ → ℕ). x 8) five_x ∙ three.1.x 8 tt ∙ two.1.x 8 tt ∙ one.1.s0;
        s1 = ap (λ (x : ℕ → ℕ). x 9) five_x ∙ three.1.x 9 tt ∙ two.1.copy;
        s2 = λ h. absurd h;
        s3 = λ h. absurd h;
        s4 = λ h. absurd h;
        others = reg;
        places = place;
        states = state;
        mem_cells = unwritten;
        stack_cells = unsaved;
        saved_cells = λ r m. five.2 r m ∙ ap (λ (f : ℕ → ℕ). f r) (four.1.f ∙ same_f);
        f = five.1.f ∙ four.1.f ∙ same_f ∙ sym (start_unused H s states refl);
        rm = run_rm came.runs.runs;
        mem = came.same;
      },
    )
