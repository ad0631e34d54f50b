-- Reloads, and the return, as both frames have them.
use mathlib.Core.Path.{◌≡◌, refl, ap, sym, subst, ◌∙◌}
use mathlib.Core.Logic.{◌≢◌}
use mathlib.Core.Bool.{not}
use mathlib.Core.List.{List, [], ◌∷◌, ◌++◌, map, map-append, Memᴰ}
use Prim.Native.Nat.{ℕ, ◌+◌, ◌*◌, ◌%◌, ◌^◌, ◌<◌}
use native.Mathlib.Omega.{arith}
use lib.Dec.{T}
use lib.IntN.{pos}
use lib.ListN.{length, length-map, get_or}
use Rattle.isa.specs.Instr.{Instr, I, ADDI}
use Rattle.isa.specs.Encode.{encode}
use Rattle.machine.specs.Word.{w64, load8}
use Rattle.machine.specs.Floats.{Floats}
use Rattle.machine.specs.State.{State, setx}
use Rattle.machine.specs.Effect.{effect, apply, exec}
use Rattle.machine.specs.Step.{Among}
use Rattle.machine.proofs.Effects.{setx_other}
use Rattle.machine.proofs.Runs.{no_step}
use Rattle.ast.specs.declared.Frame.{Frame}
use Rattle.ast.specs.declared.Head.{Head}
use Rattle.assembler.specs.Item.{label}
use Rattle.assembler.specs.Resolved.{resolved}
use Rattle.reading.specs.Size.{save_size}
use Rattle.ast.specs.Mask.{saved, save_cell}
use Rattle.frame_code.specs.Items.{at_success, at_epilogue, code, kept, closing, reload, reloads, epilogue}
use Rattle.frame_code.proofs.Walk.{resolved_instrs, Words, words_left, words_right, Stood, stood_left, stood_code, piece, behind, behind_label, wrapped, Came, came_at, hop}
use Rattle.frame_code.proofs.Seg.{Seg, onward_seg}
use Rattle.frame_code.proofs.Rows.{saved_proper, proper_fits}
use Rattle.frame_code.proofs.Reload.{Loaded, loaded, restoring, return, closing_is, closing_length, restored, Restored}
use Rattle.frame_code.proofs.Ends.{ObservedAt, exit_words, EpilogueTerms}

-- ---- the reloads

abbrev zero_a0 : Instr
zero_a0 = I ADDI 10 0 (pos 0)

-- behind them: a0 and the reloaded registers apart, all is as before
pub record Reloaded (Q : Floats) (H : Head) (at : ℕ → ℕ) (s : State) (a here : ℕ) (u w : State) : Type 0 where
  pub came : Came Q (Among u.pc (length (exit_words H at here))) (ObservedAt H s) u (a + (here + 4 * length (resolved at here (reloads H.mask)))) (1 + length (saved H.mask)) w
  pub x : (r : ℕ) → r ≢ 10 → w.x r ≡ u.x r
  pub mem : w.mem ≡ u.mem
  pub saved_f : (r : ℕ) → Memᴰ r (saved H.mask) → w.f r ≡ s.f r
  pub f : (r : ℕ) → ((q : ℕ) → Memᴰ q (saved H.mask) → q ≢ r) → w.f r ≡ u.f r

module _ (Q : Floats) (H : Head) (at : ℕ → ℕ) (s : State) (bottom a here : ℕ) (u : State) (l : EpilogueTerms H at s bottom a here u) where
  abbrev P : ℕ → Type 0
  P = ObservedAt H s

  abbrev C : ℕ → Type 0
  C = Among u.pc (length (exit_words H at here))

  pub stood : Stood at C P u.mem a here (reloads H.mask ++ epilogue H)
  stood =
      record {
        words = record { code = rw (← l.pc) l.code; off = rw (← l.pc) l.code_apart; short = l.short; even = l.even; inside = λ k m. (k, m, sym (rw l.pc (wrapped (a + here) k))) };
        labels = l.labels;
      }

  abbrev list : List Instr
  list = map reload (saved H.mask)

  -- a0 = 0
  one_does : Seg Q P (zero_a0 ∷ []) u (exec Q zero_a0 u) × ((exec Q zero_a0 u).mem ≡ u.mem) × ((exec Q zero_a0 u).f ≡ u.f) × ((r : ℕ) → r ≢ 10 → (exec Q zero_a0 u).x r ≡ u.x r)
  unfolding effect apply
  one_does = (record { fit = omega arith; lands = omega arith; end = refl }, refl, refl, λ r h. setx_other u.x 10 _ r h)

  abbrev one : State
  one = exec Q zero_a0 u

  two : (v : State) × Loaded Q P one.x u.mem bottom (one_does.3 21 (λ z. omega arith) ∙ l.s5) (omega (arith, l.frame_aligned)) (saved H.mask) one v
  two =
      loaded Q P one.x u.mem bottom (one_does.3 21 (λ z. omega arith) ∙ l.s5) (omega (arith, l.frame_aligned)) (saved H.mask) one refl one_does.1
      (λ r m. proper_fits r (saved_proper H.mask r m))

  came : Came Q C P u (a + (here + 4 * length (resolved at here (reloads H.mask)))) (1 + length (saved H.mask)) two.0
  unfolding reloads resolved
  came =
      let st = stood_left here (reloads H.mask) (epilogue H) stood in
      let st1 = behind_label here at_success _ st in
      let st2 = behind_label (here + 4) at_epilogue _ (behind here (zero_a0 ∷ []) (label at_epilogue ∷ code list) st1) in
      let n : length list ≡ length (saved H.mask) = length-map (saved H.mask) reload in
      let c1 = onward_seg (zero_a0 ∷ []) (a + here) 0 u (piece here (zero_a0 ∷ []) (label at_epilogue ∷ code list) st1) (record { runs = no_step Q; same = λ x k o. refl; pc = l.pc }) one_does.0 in
      let c2 = onward_seg list (a + (here + 4)) 1 one (stood_code (here + 4) list st2) (came_at (omega arith) refl c1) two.1.seg in
      came_at (rw (resolved_instrs at (here + 4) list) (omega (arith, length-map list encode))) (omega (arith, n)) c2

  pub reloaded : (w : State) × Reloaded Q H at s a here u w
  reloaded = (
    two.0,
    record {
      came = came;
      x = λ r h. ap (λ (x : ℕ → ℕ). x r) two.1.x ∙ one_does.3 r h;
      mem = two.1.mem;
      saved_f = λ r m. two.1.sets r m ∙ rw (at_cell r m) (l.saved_cells r m);
      f = λ r h. two.1.others r h ∙ ap (λ (f : ℕ → ℕ). f r) one_does.2;
    },
  )
    where
      at_cell : (r : ℕ) → Memᴰ r (saved H.mask) → w64 (bottom + 8 * save_cell r) ≡ bottom + 8 * save_cell r
      at_cell r m = omega (arith, proper_fits r (saved_proper H.mask r m), l.room_for_saves r m, l.fits)

-- ---- the closing

-- back to ra
module _ (Q : Floats) (v : State) where
  return_keeps : ((exec Q return v).x ≡ v.x) × ((exec Q return v).f ≡ v.f) × ((exec Q return v).mem ≡ v.mem)
  unfolding effect apply setx
  return_keeps = (refl, refl, refl)

  return_goes : (b : ℕ) → v.x 1 ≡ b → b % 4 ≡ 0 → b < 2 ^ 64 → (exec Q return v).pc ≡ w64 b
  unfolding effect apply
  return_goes b e h l = rw e (omega arith)

-- behind the closing
pub record Closed (Q : Floats) (C P : ℕ → Type 0) (F : Frame) (fp ra k : ℕ) (u w v : State) : Type 0 where
  pub came : Came Q C P u ra (k + (4 + length (kept F))) v
  pub regs : (i : ℕ) → i < length (kept F) → v.x (get_or (kept F) i 0) ≡ load8 w.mem (fp + 8 * i)
  pub sp : v.x 2 ≡ w64 (fp + save_size F)
  pub a0 : v.x 10 ≡ 0
  pub x : (r : ℕ) → T (not (restored F r)) → v.x r ≡ w.x r
  pub f : v.f ≡ w.f
  pub mem : v.mem ≡ w.mem

module _ (Q : Floats) (C P : ℕ → Type 0) (at : ℕ → ℕ) (F : Frame) (fp ra a h k : ℕ) (u w v : State) where
  pub closes : Stood at C P u.mem a h (code (closing F)) → Came Q C P u (a + h) k w → Restored Q P F fp w v → v.x 1 ≡ ra → ra % 4 ≡ 0 → ra < 2 ^ 64 → Closed Q C P F fp ra k u w (exec Q return v)
  closes st c r e d l =
      let ws : Words C P u.mem (a + h) (map encode (restoring F) ++ (encode return ∷ [])) = subst (λ (w : List ℕ). Words C P u.mem (a + h) w) (ap (λ (is : List Instr). map encode is) (closing_is F) ∙ map-append encode (restoring F) (return ∷ [])) (stood_code h (closing F) st) in
      let n : length (map encode (restoring F)) ≡ length (restoring F) = length-map (restoring F) encode in
      let c1 = onward_seg (restoring F) (a + h) k w (words_left (a + h) (map encode (restoring F)) (encode return ∷ []) ws) c r.seg in
      let g = return_keeps Q v in
      record {
        came =
            came_at refl (omega (arith, closing_length F))
            (hop return (a + h + 4 * length (restoring F)) ra (k + length (restoring F)) v (rw n at (words_right (a + h) (map encode (restoring F)) (encode return ∷ []) ws)) c1 (omega arith) tt g.2 (return_goes Q v ra e d l));
        regs = λ i o. ap (λ (x : ℕ → ℕ). x (get_or (kept F) i 0)) g.0 ∙ r.regs i o;
        sp = ap (λ (x : ℕ → ℕ). x 2) g.0 ∙ r.sp;
        a0 = ap (λ (x : ℕ → ℕ). x 10) g.0 ∙ r.a0;
        x = λ q o. ap (λ (x : ℕ → ℕ). x q) g.0 ∙ r.x q o;
        f = g.1 ∙ r.f;
        mem = g.2 ∙ r.mem;
      }
