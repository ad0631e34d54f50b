-- Behind the body: what reloads and epilogue ask for.
use mathlib.Core.Path.{◌≡◌, ap, sym, ◌∙◌}
use mathlib.Core.List.{Memᴰ}
use Prim.Native.Nat.{ℕ, ◌+◌, ◌*◌, ◌^◌, ◌≤◌, ◌<◌}
use native.Mathlib.Omega.{arith}
use lib.Dec.{T, ltb, ltb→lt}
use lib.ListN.{length}
use Rattle.ast.specs.Count.{cells, cell_count}
use Rattle.machine.specs.Word.{w64, dist, load8}
use Rattle.machine.specs.Floats.{Floats}
use Rattle.machine.specs.State.{State, Sound}
use Rattle.machine.specs.Step.{CodeAt}
use Rattle.machine.proofs.Memory.{inside, load8_local}
use Rattle.base.proofs.Bools.{and_l, and_r}
use Rattle.ast.specs.declared.Place.{Place}
use Rattle.ast.specs.declared.Place.TheVariants.{Stack}
use Rattle.ast.specs.declared.Frame.{Frame}
use Rattle.ast.specs.declared.Frame.TheVariants.{Fast, Indirect}
use Rattle.ast.specs.declared.Head.{Head}
use Rattle.assembler.specs.Resolved.{resolved}
use Rattle.reading.specs.Size.{save_size, below_saves}
use Rattle.frame_code.specs.Items.{kept}
use Rattle.ast.specs.Mask.{saved, save_cell}
use Rattle.frame_code.proofs.Rows.{saved_proper}
use Rattle.frame_code.proofs.Ends.{ObservedAt, PrologueDone, EpilogueTerms}
use Rattle.reading.specs.Program.{Program}
use Rattle.reading.specs.Plain.{Reading, Reads, Ended}
use Rattle.reading.specs.Terms.{table_used, frame_bytes, bottom, base, start, Within, frame, Terms}
use Rattle.call.specs.Layout.{span, place, exit, code_length, routine_words}
use Rattle.call.proofs.Offset.{line_offset}
use Rattle.call.proofs.Good.{Good}
use Rattle.call.proofs.Items.{resolved_length}
use Rattle.call.proofs.Whole.{exit_part, exit_stands, offset_four, offset_exit}
use Rattle.call.proofs.Cells.{Inside, at_cell}
use Rattle.call.proofs.Follow.{Rel, code_now}
use Rattle.call.proofs.Saved.{held}
use Rattle.call.proofs.Lies.{Lies}
use Rattle.call.proofs.Entered.{saves_room, lying, opened, ready, outside_frame, start_cell, ground}

-- the cell of a saved register is one of the 16
cell_low : (mask r : ℕ) → Memᴰ r (saved mask) → save_cell r < 16
cell_low mask r m = ltb→lt (save_cell r) 16 (and_l (ltb (save_cell r) 16) _ (and_r (ltb r 32) _ (saved_proper mask r m)))

-- the places of registers fill their part of the frame
places_fit : (F : Frame) (i : ℕ) → i < length (kept F) → 8 * i + 8 ≤ save_size F
places_fit Fast i h = omega arith
places_fit Indirect i h = omega arith

module _ (Q : Floats) (p : Program) (g : Good p) (s : State) (o : Sound s) (c : CodeAt s.mem s.pc (routine_words p)) (t : Terms p.head (code_length p) s) where
  abbrev H : Head
  H = p.head

  abbrev first : State
  first = ready Q p g s o c t

  abbrev r0 : PrologueDone Q H (place p) s (bottom H s) first
  r0 = (opened Q p g s o c t).1

  abbrev l : Lies H (code_length p) s
  l = lying Q p g s o c t

  -- u stands where the reading r stands
  module _ (r : Reading) (u : State) (h : Rel Q p (base H s) s.pc first.x first.mem r u) where
    -- bytes that are neither in cells nor in the frame are the call's
    pub far_bytes : (x : ℕ) → x < 2 ^ 64 → ((q : Place) → Inside (base H s q) (cell_count H q) x → ⊥) → (Within (frame H s) x → ⊥) → u.mem x ≡ s.mem x
    far_bytes x b k f = h.rest x b k ∙ outside_frame Q p g s o c t x b f

    place_kept : (i : ℕ) → i < length (kept H.frame) → load8 u.mem (bottom H s + below_saves H (s.x 11) + 8 * i) ≡ load8 first.mem (bottom H s + below_saves H (s.x 11) + 8 * i)
    place_kept i k =
        let w = places_fit H.frame i k in
        let fits : bottom H s + below_saves H (s.x 11) + 8 * i + 8 ≤ 2 ^ 64 = plain (bottom H s) (below_saves H (s.x 11)) (8 * i) (save_size H.frame) w l.top in
        load8_local u.mem first.mem (bottom H s + below_saves H (s.x 11) + 8 * i)
        (λ x b d.
        let v = inside (bottom H s + below_saves H (s.x 11) + 8 * i) 8 x fits b d in
        let z = both (bottom H s) (below_saves H (s.x 11)) (8 * i) (save_size H.frame) x w v.0 v.1 in
        h.rest x b (λ q e. l.off_places q x e z.0 z.1))
      where
        plain : (a b i n : ℕ) → i + 8 ≤ n → a + (b + n) ≤ 2 ^ 64 → a + b + i + 8 ≤ 2 ^ 64
        plain a b i n h k = omega arith

        both : (a b i n x : ℕ) → i + 8 ≤ n → a + b + i ≤ x → x < a + b + i + 8 → (a + b ≤ x) × (x < a + (b + n))
        both a b i n x h k m = (omega arith, omega arith)

    -- the table's pointers are the call's
    pointer_kept : T (table_used H s) → (i : ℕ) → i < cells H → load8 u.mem (w64 (s.x 11 + 16 * i)) ≡ load8 s.mem (w64 (s.x 11 + 16 * i))
    pointer_kept e i k =
        let z : w64 (s.x 11 + 16 * i) ≡ s.x 11 + 16 * i = omega (arith, l.table_top e) in
        rw z
        (load8_local u.mem s.mem (s.x 11 + 16 * i)
        (λ x b d.
        let v = inside (s.x 11 + 16 * i) 8 x (omega (arith, l.table_top e)) b d in
        let w : Within (record { start = s.x 11; size = 16 * cells H }) x = (omega (arith, v.0), omega (arith, v.1)) in
        far_bytes x b (λ q y. l.off_table e q x y w) (l.table_frame e x w)))

    module _ (n : ℕ) (q : Reads Q p (start H s) n r) (z : Ended p r) where
      abbrev here : ℕ
      here = line_offset p r.line

      exit_span : here + span (exit p) ≤ code_length p
      exit_span = offset_exit p r.line

      saved_kept : (y : ℕ) → Memᴰ y (saved H.mask) → load8 u.mem (bottom H s + 8 * save_cell y) ≡ s.f y
      saved_kept y m =
          let k : save_cell y < H.cap = omega (arith, cell_low H.mask y m, saves_room H g.cap y m) in
          let e : w64 (bottom H s + 8 * save_cell y) ≡ bottom H s + 8 * save_cell y = at_cell l.rooms Stack (save_cell y) k in
          rw e at (h.cells Stack (save_cell y) k ∙ (held Q p g q).cells y m ∙ sym (start_cell Q p g s o c t Stack (save_cell y) k) ∙ ap (load8 first.mem) e ∙ r0.saved_cells y m)

      -- an observation cell has no byte of the code
      code_off : (x : ℕ) → x < 2 ^ 64 → dist u.pc x < 4 * length (resolved (place p) here (exit p)) → ObservedAt H s x → ⊥
      code_off x b d v =
          let e : 4 * length (resolved (place p) here (exit p)) ≡ span (exit p) = resolved_length (place p) here (exit p) in
          let k : w64 (s.pc + here) ≡ s.pc + here = omega (arith, exit_span, l.code_top) in
          let f : dist (s.pc + here) x < span (exit p) = rw (e, h.pc, k) at d in
          let w = inside (s.pc + here) (span (exit p)) x (omega (arith, exit_span, l.code_top)) b f in
          (l.obs_off v.0 v.1 v.2 x b v.3).0 (omega (arith, w.0), omega (arith, w.1, exit_span))

      pub leaving : EpilogueTerms H (place p) s (bottom H s) s.pc here u
      leaving =
          let e : 4 * length (resolved (place p) here (exit p)) ≡ span (exit p) = resolved_length (place p) here (exit p) in
          record {
            counts = g.counts;
            sound = h.sound;
            ra = t.ra_aligned;
            fits = l.top;
            sp = l.sp;
            pc = h.pc;
            even = omega (arith, t.code_aligned, offset_four p r.line);
            code = rw h.pc (exit_part p u.mem s.pc o.pc (code_now Q p (base H s) s.pc first.x first.mem (ground Q p g s o c t) r u h) r.line z);
            short = omega (arith, exit_span, l.code_top);
            labels = exit_stands p g r.line z;
            s0 = h.regs 8 tt ∙ r0.s0;
            s1 = h.regs 9 tt ∙ r0.s1;
            s2 = λ i. h.regs 18 tt ∙ r0.s2 i;
            s3 = λ i. h.regs 19 tt ∙ r0.s3 i;
            s5 = h.regs 21 tt ∙ r0.s5;
            places = λ i k. place_kept i k ∙ r0.places i k;
            room_for_saves = saves_room H g.cap;
            saved_cells = saved_kept;
            table_fits = l.table_top;
            pointers = λ v i k. pointer_kept v (H.states + i) (omega arith);
            code_apart = code_off;
            frame_apart = λ x b d v. (l.obs_off v.0 v.1 v.2 x b v.3).1 (inside (bottom H s) (frame_bytes H s) x l.top b d);
            table_apart = λ v x b d w. (l.obs_off w.0 w.1 w.2 x b w.3).2 (inside (s.x 11) (16 * cells H) x (l.table_top v) b d);
            frame_aligned = l.frame_aligned;
            table_aligned = t.table_aligned;
            obs_aligned = λ v i k. t.cells_aligned v (H.states + i) (omega arith);
          }
