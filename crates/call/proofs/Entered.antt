-- From the terms of a call to where the body starts: behind prologue and saves the machine stands at the reading's start.
use mathlib.Core.Path.{◌≡◌, refl, ap, sym, ◌∙◌}
use mathlib.Core.Logic.{◌⊎◌, inl, inr}
use mathlib.Core.Bool.{Bool, true, false, not, ◌||◌, cond}
use mathlib.Core.List.Memᴰ
use mathlib.Core.List.{List, [], ◌∷◌, ◌++◌, Memᴰ}
use Prim.Native.Nat.{ℕ, ◌+◌, ◌*◌, ◌^◌, ◌≤◌, ◌<◌}
use native.Mathlib.Omega.{arith}
use borrow.Author.Tests.{ltb-true, ltb-false, eqb-true, eqb-false, leb-true}
use lib.Dec.{T, eqb, ltb, leb}
use lib.ListN.{length}
use Rattle.ast.specs.Count.{cells, param_count, cell_count}
use Rattle.machine.specs.Word.{w64, dist, load8}
use Rattle.machine.specs.Floats.{Floats}
use Rattle.machine.specs.State.{State, Sound}
use Rattle.machine.specs.Step.{CodeAt}
use Rattle.machine.proofs.Memory.{inside, dist_back, load8_local}
use Rattle.base.proofs.Bools.{and_l}
use Rattle.machine.proofs.Runs.{run_sound}
use Rattle.machine.proofs.Placed.{code_kept}
use Rattle.ast.specs.declared.Place.{Place}
use Rattle.ast.specs.declared.Place.TheVariants.{Mem, Stack, Param}
use Rattle.ast.specs.declared.Frame.{Frame}
use Rattle.ast.specs.declared.Frame.TheVariants.{Fast, Indirect}
use Rattle.ast.specs.declared.Head.{Head}
use Rattle.assembler.specs.Resolved.{resolved}
use Rattle.orders.specs.Code as O
use Rattle.reading.specs.Size.{holds_mem, stack_size}
use Rattle.ast.specs.Counts.{prologue_holds, cap_holds}
use Rattle.ast.specs.Mask.{saved, save_cell, saves}
use Rattle.ast.proofs.Masked.{none_saved}
use Rattle.frame_code.proofs.Ends.{mem_at, indirect, PrologueTerms, PrologueDone}
use Rattle.frame_code.proofs.Opened.{opens}
use Rattle.reading.specs.Program.{Program}
use Rattle.reading.specs.Terms.{frame_bytes, bottom, base, as_called, table_cell, state_value, stack_value, start_cells, start, Terms}
use Rattle.call.specs.Layout.{span, body, items, place, entry, exit, code_items, data_items, code_length, routine_words}
use Rattle.call.proofs.Offset.{line_offset}
use Rattle.call.proofs.Good.{Good}
use Rattle.call.proofs.Items.{span_append, resolved_length}
use Rattle.call.proofs.Whole.{entry_part, entry_stands}
use Rattle.call.proofs.Cells.{at_cell}
use Rattle.call.proofs.Follow.{Rel, Ground}
use Rattle.call.proofs.Lies.{Lies, lies}

-- a saved register's cell has a cap of 16
pub saves_room : (H : Head) → T (cap_holds H) → (r : ℕ) → Memᴰ r (saved H.mask) → 16 ≤ H.cap
saves_room H h r m = by (leb 16 H.cap) (saves H.mask) refl refl h
  where
    by : (b t : Bool) → leb 16 H.cap ≡ b → saves H.mask ≡ t → T (b || not t) → 16 ≤ H.cap
    by true t e q h = leb-true 16 H.cap e
    by false true e q h = absurd h
    by false false e q h = absurd (Memᴰ.not-nil (rw (none_saved H.mask q) at m))

-- the cells of `stack`: a saved register's, or what memory held
stack_found : (H : Head) (s : State) (m : ℕ → ℕ) (b i : ℕ) (rs : List ℕ) → ((r : ℕ) → Memᴰ r rs → load8 m (b + 8 * save_cell r) ≡ s.f r) → (((r : ℕ) → Memᴰ r rs → save_cell r ≡ i → ⊥) → load8 m (b + 8 * i) ≡ as_called H s Stack i) → load8 m (b + 8 * i) ≡ stack_value H s rs i
stack_found H s m b i [] f g = g (λ r n. absurd (Memᴰ.not-nil n))
stack_found H s m b i (r ∷ rs) f g =
    by (eqb (save_cell r) i) refl
    (λ not-here.
    stack_found H s m b i rs (λ q n. f q (Memᴰ.tail n))
    (λ others. g (λ q n e. other q (Memᴰ.cases_cons n) not-here others e)))
  where
    other : (q : ℕ) → (q ≡ r) ⊎ Memᴰ q rs → (save_cell r ≡ i → ⊥) → ((q : ℕ) → Memᴰ q rs → save_cell q ≡ i → ⊥) → save_cell q ≡ i → ⊥
    other q (inl e) here rest z = here (ap save_cell (sym e) ∙ z)
    other q (inr n) here rest z = rest q n z

    by : (t : Bool) → eqb (save_cell r) i ≡ t → ((save_cell r ≡ i → ⊥) → load8 m (b + 8 * i) ≡ stack_value H s rs i) → load8 m (b + 8 * i) ≡ cond t (s.f r) (stack_value H s rs i)
    by true e h = rw (← (eqb-true (save_cell r) i e)) (f r (Memᴰ.head refl))
    by false e h = h (eqb-false (save_cell r) i e)

module _ (Q : Floats) (p : Program) (g : Good p) (s : State) (o : Sound s) (c : CodeAt s.mem s.pc (routine_words p)) (t : Terms p.head (code_length p) s) where
  abbrev H : Head
  H = p.head

  pub lying : Lies H (code_length p) s
  lying = lies H (code_length p) s o g.counts t

  entry_span : span (entry p) ≤ code_length p
  unfolding items
  entry_span = omega (arith, span_append (code_items p) (data_items p), span_append (entry p) (body p.lines ++ exit p))

  called : PrologueTerms H (place p) s (bottom H s)
  called =
      let e : 4 * length (resolved (place p) 0 (entry p)) ≡ span (entry p) = resolved_length (place p) 0 (entry p) in
      record {
        counts = and_l (prologue_holds H) _ g.counts;
        room_for_saves = saves_room H g.cap;
        sound = o;
        start = omega (arith, t.code_aligned);
        fits = lying.top;
        sp = lying.sp;
        code = entry_part p s.mem s.pc o.pc c;
        labels = entry_stands p;
        code_fits = omega (arith, lying.code_top, entry_span);
        code_apart = λ x b d f. let v = inside s.pc (code_length p) x lying.code_top b (omega (arith, entry_span)) in lying.code_frame x v f;
        table_fits = lying.table_top;
        table_apart = λ h x b d f. lying.table_frame h x (inside (s.x 11) (16 * cells H) x (lying.table_top h) b d) f;
        states_apart = λ h i k x b d f. (t.state_cells h i k).0 (dist (table_cell H s i) x) d (rw (dist_back (table_cell H s i) x b) f);
        block_fits = lying.block_top;
        block_apart = λ h x b d f. lying.block_frame h x (inside (s.x 10) (8 * cells H) x (lying.block_top h) b d) f;
        frame_aligned = lying.frame_aligned;
        table_aligned = t.table_aligned;
        states_aligned = λ h i k. t.cells_aligned h i (omega arith);
      }

  pub opened : (u : State) × PrologueDone Q H (place p) s (bottom H s) u
  opened = opens Q H (place p) s (bottom H s) called

  -- ---- the machine behind prologue and saves

  abbrev pub ready : State
  ready = opened.0

  abbrev r : PrologueDone Q H (place p) s (bottom H s) ready
  r = opened.1

  pub mem_base_is : base H s Mem ≡ mem_at H s (bottom H s)
  mem_base_is = by (holds_mem H.frame (s.x 11)) lying.mem_base
    where
      by : (b : Bool) → (T b → cond b (w64 (bottom H s + stack_size H)) (s.x 10) ≡ bottom H s + stack_size H) → cond b (w64 (bottom H s + stack_size H)) (s.x 10) ≡ cond b (bottom H s + stack_size H) (s.x 10)
      by true h = h tt
      by false h = refl

  pub outside_frame : (x : ℕ) → x < 2 ^ 64 → ((bottom H s ≤ x) × (x < bottom H s + frame_bytes H s) → ⊥) → ready.mem x ≡ s.mem x
  outside_frame x b f = r.mem x b f

  pub start_cell : (q : Place) (i : ℕ) → i < cell_count H q → load8 ready.mem (w64 (base H s q + 8 * i)) ≡ start_cells H s q i
  start_cell Mem i h = rw mem_base_is (by (ltb i H.states) refl)
    where
      by : (b : Bool) → ltb i H.states ≡ b → load8 ready.mem (w64 (mem_at H s (bottom H s) + 8 * i)) ≡ cond b (state_value H s H.frame i) (load8 s.mem (w64 (mem_at H s (bottom H s) + 8 * i)))
      by true e = r.states i (ltb-true i H.states e)
      by false e = r.mem_cells i (ltb-false i H.states e) h
  start_cell Stack i h =
      rw (at_cell lying.rooms Stack i h)
      (stack_found H s ready.mem (bottom H s) i (saved H.mask) r.saved_cells (λ none_here. r.stack_cells i h none_here ∙ rw (at_cell lying.rooms Stack i h)))
  start_cell Param i h =
      let e : w64 (s.x 13 + 8 * i) ≡ s.x 13 + 8 * i = at_cell lying.rooms Param i h in
      rw e
      (load8_local ready.mem s.mem (s.x 13 + 8 * i)
      (λ x b d.
      let v = inside (s.x 13 + 8 * i) 8 x (omega (arith, lying.rooms.fits Param (omega arith))) b d in
      outside_frame x b (lying.param_frame x (omega (arith, v.0), omega (arith, v.1)))))

  -- it stands where the reading starts
  pub start_rel : Rel Q p (base H s) s.pc ready.x ready.mem (start H s) ready
  unfolding line_offset body span
  start_rel =
      record {
        sound = run_sound Q r.runs.runs o;
        pc = r.pc ∙ ap (λ (k : ℕ). w64 (s.pc + k)) (omega (arith, resolved_length (place p) 0 (entry p)));
        f = r.f;
        rm = r.rm;
        cells = start_cell;
        rest = λ x b f. refl;
        regs = λ y h. refl;
      }

  pub ground : Ground Q p (base H s) s.pc ready.x ready.mem
  ground =
      record {
        good = g;
        rooms = lying.rooms;
        start_aligned = t.code_aligned;
        start_small = o.pc;
        code_fits = lying.code_top;
        off_code = lying.off_code;
        bases = bases;
        bases_aligned = lying.bases_aligned;
        code =
            let e = resolved_length (place p) 0 (items p) in
            code_kept s.mem ready.mem s.pc (routine_words p) (omega (arith, lying.code_top))
            (λ x b d. outside_frame x b (λ f. lying.code_frame x (inside s.pc (code_length p) x lying.code_top b (omega arith)) f))
            c;
      }
    where
      params : (F : Frame) → 0 < param_count F H.last → T (indirect F)
      params Fast h = absurd (omega arith)
      params Indirect h = tt

      bases : (q : Place) → 0 < cell_count H q → ready.x (O.base q) ≡ base H s q
      bases Mem h = r.s1 ∙ sym mem_base_is
      bases Stack h = r.s5
      bases Param h = r.s4 (params H.frame h)
