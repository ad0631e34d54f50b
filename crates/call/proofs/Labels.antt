-- The labels of the frames: each is set once, and none is a user's or a constant's.
use mathlib.Core.Bool.{Bool, true, false, cond}
use mathlib.Core.Path.{◌≡◌}
use mathlib.Core.List.{List, [], ◌∷◌, ◌++◌, map, append_assoc}
use Prim.Native.Nat.{ℕ, ◌*◌, ◌≤◌}
use native.Mathlib.Omega.{arith}
use lib.Dec.{eqb, leb}
use lib.IntN.{pos, negsuc}
use Rattle.isa.specs.Instr.{Instr, R, I, Shift, ADD, ADDI, FLD, SLLI}
use Rattle.ast.specs.declared.Frame.{Frame}
use Rattle.ast.specs.declared.Frame.TheVariants.{Fast, Indirect}
use Rattle.ast.specs.declared.Head.{Head}
use Rattle.assembler.specs.Item.{Item, jump, label}
use Rattle.assembler.specs.declared.JumpKind.TheVariants.{Bne}
use Rattle.accesses.specs.Code.{li_code, sub_stack_code, allocate_stack_code}
use Rattle.reading.specs.Size.{frame_size, stack_size}
use Rattle.ast.specs.Mask.{saved}
use Rattle.frame_code.specs.Items.{code, mv, opening, closing, times_over, states_from, state_copy, obs_copy, at_pro, at_epi, at_done, at_main, save, reload, by_frame, repeated, prologue, prologue_fast, prologue_indirect, epilogue, epilogue_fast, epilogue_indirect, saves, reloads}
use Rattle.call.proofs.Items.{Fresh, fresh_instrs, fresh_then}

-- those of prologues, and those of what follows the body
abbrev pub Early : ℕ → Type 0
Early l = (2032 ≤ l) × (l ≤ 2034)

abbrev pub Late : ℕ → Type 0
Late l = (2035 ≤ l) × (l ≤ 2038)

module _ (K : ℕ → Type 0) where
  fresh_repeated : (n : ℕ) (is js : List Instr) (k : ℕ) (ys : List Item) → K k → Fresh ys K → Fresh ys (λ l. K l × (k ≡ l → ⊥)) → Fresh (repeated n is js k ++ ys) K
  unfolding repeated
  fresh_repeated n is js k ys v f g = by (eqb n 0) (leb n 16)
    where
      loop : List Instr
      loop = js ++ (I ADDI 7 7 (negsuc 0) ∷ [])

      by : (s t : Bool) → Fresh (cond s [] (cond t (code (is ++ times_over n js)) (code (is ++ li_code 7 (pos n)) ++ (label k ∷ (code loop ++ (jump Bne k 0 ∷ []))))) ++ ys) K
      by true t = f
      by false true = fresh_instrs (is ++ times_over n js) ys K f
      by false false =
          rw (append_assoc (code (is ++ li_code 7 (pos n))) (label k ∷ (code loop ++ (jump Bne k 0 ∷ []))) ys)
          (fresh_instrs (is ++ li_code 7 (pos n)) (label k ∷ ((code loop ++ (jump Bne k 0 ∷ [])) ++ ys)) K
          (v, rw (append_assoc (code loop) (jump Bne k 0 ∷ []) ys) (fresh_instrs loop (jump Bne k 0 ∷ ys) _ g)))

  epilogue_fresh : (H : Head) → K at_epi → K at_done → Fresh (epilogue H) K
  unfolding epilogue
  epilogue_fresh H v w = by H.frame
    where
      by : (F : Frame) → Fresh (by_frame F (epilogue_fast H) (epilogue_indirect H)) K
      by Fast = fresh_then [] (I FLD 10 9 (pos (8 * H.last)) ∷ closing Fast) K tt
      by Indirect =
          fresh_repeated H.obs (li_code 6 (pos (8 * H.states)) ++ (R ADD 6 6 9 ∷ [])) obs_copy at_epi (label at_done ∷ code (closing Indirect)) v
          (w, fresh_then [] (closing Indirect) _ tt)
          ((w, λ e. omega arith), fresh_then [] (closing Indirect) _ tt)

pub entry_fresh : (H : Head) → Fresh (prologue H ++ saves H.mask) Early
unfolding prologue saves
entry_fresh H = fresh_then (prologue H) (map save (saved H.mask)) Early (by H.frame)
  where
    K : ℕ → Type 0
    K l = Early l × (2032 ≡ l → ⊥)

    last : (W : ℕ → Type 0) → W at_main → Fresh (label at_main ∷ code (allocate_stack_code (stack_size H))) W
    last W w = (w, fresh_then [] (allocate_stack_code (stack_size H)) _ tt)

    by : (F : Frame) → Fresh (by_frame F (prologue_fast H) (prologue_indirect H)) Early
    by Fast =
        fresh_then [] (opening Fast ++ (sub_stack_code (frame_size H) ++ (mv 9 2 ∷ (sub_stack_code (stack_size H) ++ (mv 21 2 ∷ states_from 0 H.states))))) Early tt
    by Indirect = (
      omega arith,
      fresh_instrs (opening Indirect ++ (mv 9 10 ∷ mv 18 11 ∷ mv 19 12 ∷ mv 20 13 ∷ [])) _ K
          (fresh_instrs (sub_stack_code (frame_size H) ++ (mv 9 2 ∷ Shift SLLI 19 19 (pos 3) ∷ [])) _ K
          (fresh_repeated K H.states (mv 6 9 ∷ []) state_copy at_pro (label at_main ∷ code (allocate_stack_code (stack_size H))) (omega arith)
          (last K (omega arith))
          (last (λ l. K l × (2034 ≡ l → ⊥)) (omega arith)))),
    )

pub exit_fresh : (H : Head) → Fresh (reloads H.mask ++ epilogue H) Late
unfolding reloads
exit_fresh H = (
  omega arith,
  (omega arith, fresh_instrs (map reload (saved H.mask)) (epilogue H) _ (epilogue_fresh _ H (omega arith) (omega arith))),
)
