-- Reloads and epilogue of a fast frame.
use mathlib.Core.Path.{◌≡◌, refl, ap, sym, subst, ◌∙◌}
use mathlib.Core.Logic.{◌≢◌}
use mathlib.Core.Bool.{not, ◌&&◌}
use mathlib.Core.List.{[], ◌∷◌}
use Prim.Native.Nat.{ℕ, ◌+◌, ◌*◌, ◌%◌, ◌^◌, ◌≤◌, ◌<◌}
use native.Mathlib.Omega.{arith}
use lib.Dec.{T, leb, leb→le}
use lib.IntN.{pos}
use lib.ListN.{length, get_or}
use Rattle.isa.specs.Instr.{Instr, I, FLD}
use Rattle.machine.specs.Word.{w64, upd, load8}
use Rattle.machine.specs.Floats.{Floats}
use Rattle.machine.specs.State.{State}
use Rattle.machine.specs.Effect.{effect, apply, exec}
use Rattle.machine.specs.Step.{Among, RunIn}
use Rattle.machine.proofs.Exec.{execs}
use Rattle.machine.proofs.Memory.{upd_same, upd_other, load8_small}
use Rattle.base.proofs.Bools.{and_l, and_r}
use Rattle.ast.specs.declared.Frame.TheVariants.{Fast}
use Rattle.ast.specs.declared.Head.{Head}
use Rattle.assembler.specs.Resolved.{resolved}
use Rattle.reading.specs.Size.{frame_size, stack_size}
use Rattle.ast.specs.Mask.{saved}
use Rattle.frame_code.specs.Items.{code, kept, closing, reloads, epilogue}
use Rattle.ast.specs.Counts.{result_limit}
use Rattle.frame_code.proofs.Walk.{Stood, stood_right, piece, behind, Came, came_at, run_rm}
use Rattle.frame_code.proofs.Seg.{Seg, onward_seg}
use Rattle.frame_code.proofs.Rows.{not_ten}
use Rattle.frame_code.proofs.Reload.{restoring, return, Restored, restores_fast}
use Rattle.frame_code.proofs.Leave.{Reloaded, stood, reloaded, Closed, closes}
use Rattle.frame_code.proofs.Ends.{ObservedAt, exit_words, EpilogueTerms, EpilogueDone, end_sets}

module _ (Q : Floats) (cap states obs last mask : ℕ) (at : ℕ → ℕ) (s : State) (bottom a here : ℕ) (u : State) where
  abbrev H : Head
  H = record { frame = Fast; cap = cap; states = states; obs = obs; last = last; mask = mask }

  module _ (l : EpilogueTerms H at s bottom a here u) where
    abbrev P : ℕ → Type 0
    P = ObservedAt H s

    abbrev C : ℕ → Type 0
    C = Among u.pc (length (exit_words H at here))

    abbrev fp : ℕ
    fp = bottom + (stack_size H + frame_size H)

    near : last ≤ result_limit
    near =
        let h = and_r (leb cap 4096 && (leb (states + obs) 4096 && leb states 8)) _ l.counts in
        leb→le last result_limit (and_l (leb last result_limit) _ h)

    one : (w : State) × Reloaded Q H at s a here u w
    one = reloaded Q H at s bottom a here u l

    abbrev there : ℕ
    there = here + 4 * length (resolved at here (reloads mask))

    abbrev load : Instr
    load = I FLD 10 9 (pos (8 * last))

    st : Stood at C P u.mem a there (code (load ∷ closing Fast))
    unfolding epilogue
    st = stood_right here (reloads mask) (code (load ∷ closing Fast)) (stood Q H at s bottom a here u l)

    abbrev two : State
    two = exec Q load one.0

    cell_even : w64 (one.0.x 9 + 8 * last % 2 ^ 64) % 8 ≡ 0
    cell_even = rw (one.1.x 9 (λ z. omega arith), l.s1) (omega (arith, l.frame_aligned))

    two_does : Seg Q P (load ∷ []) one.0 two × (two.x ≡ one.0.x) × (two.mem ≡ one.0.mem) × (two.f ≡ upd one.0.f 10 (load8 one.0.mem (w64 (one.0.x 9 + 8 * last % 2 ^ 64))))
    unfolding effect apply
    two_does = (record { fit = (omega (arith, near), cell_even, tt); lands = omega arith; end = refl }, refl, refl, refl)

    came2 : Came Q C P u (a + (there + 4)) (2 + length (saved mask)) two
    came2 = came_at (omega arith) (omega arith) (onward_seg (load ∷ []) (a + there) (1 + length (saved mask)) one.0 (piece there (load ∷ []) (code (closing Fast)) st) one.1.came two_does.0)

    s0 : two.x 8 ≡ fp
    s0 = ap (λ (x : ℕ → ℕ). x 8) two_does.1 ∙ one.1.x 8 (λ z. omega arith) ∙ l.s0

    same_mem : two.mem ≡ u.mem
    same_mem = two_does.2 ∙ one.1.mem

    abbrev three : State
    three = execs Q (restoring Fast) two

    back : Restored Q P Fast fp two three
    back = restores_fast Q P fp two s0 (omega (arith, l.frame_aligned)) (omega (arith, l.fits)) (omega (arith, l.fits))

    place : (i : ℕ) → i < 4 → load8 two.mem (fp + 8 * i) ≡ s.x (get_or (kept Fast) i 0)
    place i h = rw same_mem (l.places i h)

    ra : three.x 1 ≡ s.x 1
    ra = back.regs 0 (omega arith) ∙ place 0 (omega arith)

    ra_small : s.x 1 < 2 ^ 64
    ra_small = subst (λ (k : ℕ). k < 2 ^ 64) (l.places 0 (omega arith)) (load8_small u.mem (fp + 8 * 0) l.sound.mem)

    end : Closed Q C P Fast fp (s.x 1) (2 + length (saved mask)) u two (exec Q return three)
    end = closes Q C P at Fast fp (s.x 1) a (there + 4) (2 + length (saved mask)) u two three (behind there (load ∷ []) (code (closing Fast)) st) came2 back ra l.ra ra_small

    ten_out : (r : ℕ) → T (not (end_sets Fast r)) → r ≢ 10
    ten_out r h e = rw e at h

    pub returned : (v : State) × EpilogueDone Q H at s bottom here u v
    returned = (
      exec Q return three,
      record {
        runs = subst (λ (k : ℕ). RunIn Q C u k (exec Q return three)) (omega arith) end.came.runs;
        pc = end.came.pc ∙ omega (arith, ra_small);
        sp = end.sp ∙ sym (l.sp ∙ ap (λ (k : ℕ). k % 2 ^ 64) (omega arith));
        a0 = end.a0;
        restored = λ i h. end.regs i h ∙ place i h;
        others = λ r h. end.x r h ∙ ap (λ (x : ℕ → ℕ). x r) two_does.1 ∙ one.1.x r (ten_out r h);
        reloaded = λ r m. ap (λ (f : ℕ → ℕ). f r) (end.f ∙ two_does.3) ∙ upd_other one.0.f 10 _ r (not_ten mask r m) ∙ one.1.saved_f r m;
        result = λ h. ap (λ (f : ℕ → ℕ). f 10) (end.f ∙ two_does.3) ∙ upd_same one.0.f 10 _ ∙ rw (one.1.mem, one.1.x 9 (λ z. omega arith), l.s1, cell) refl;
        floats = λ r h n. ap (λ (f : ℕ → ℕ). f r) (end.f ∙ two_does.3) ∙ upd_other one.0.f 10 _ r h ∙ one.1.f r n;
        rm = run_rm end.came.runs.runs;
        mem = end.mem ∙ same_mem;
      },
    )
      where
        cell : (bottom + stack_size H + 8 * last % 2 ^ 64) % 2 ^ 64 ≡ (bottom + stack_size H + 8 * last) % 2 ^ 64
        cell = omega arith
