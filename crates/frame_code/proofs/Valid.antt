-- Every instruction of an accepted frame is valid, jumps resolved by the places of their labels.
use mathlib.Core.Path.{◌≡◌, refl, ap, ◌∙◌}
use mathlib.Core.Bool.{Bool, true, false, ◌&&◌, cond}
use mathlib.Core.List.{List, [], ◌∷◌, ◌++◌, map}
use Prim.Native.Nat.{ℕ, zero, suc, ◌+◌, ◌*◌, ◌≤◌, ◌<◌}
use native.Mathlib.Omega.{arith}
use borrow.Author.Tests.{lt-ltb}
use lib.Dec.{T, eqb, leb, leb→le}
use lib.IntN.{pos, negsuc, sub_ℕ}
use lib.ListN.{length, length-append}
use Rattle.ast.specs.Count.{cells}
use Rattle.isa.specs.Instr.{Instr, R, I, Shift, ADD, XOR, JALR, SLLI}
use Rattle.isa.proofs.Validity.{Valid}
use Rattle.machine.proofs.Placed.{Valids}
use Rattle.base.proofs.Bools.{and_l, and_r}
use Rattle.ast.specs.declared.Frame.{Frame}
use Rattle.ast.specs.declared.Frame.TheVariants.{Fast, Indirect}
use Rattle.ast.specs.declared.Head.{Head}
use Rattle.assembler.specs.Item.{Item, instr, raw, jump, label}
use Rattle.assembler.specs.Jump.{jump_instr}
use Rattle.assembler.specs.Resolved.{resolved}
use Rattle.assembler.specs.declared.JumpKind.TheVariants.{Beq, Bne}
use Rattle.accesses.specs.Code.{li_code, sub_stack_code, add_stack_code, allocate_stack_code}
use Rattle.accesses.proofs.Then.{valids_join}
use Rattle.accesses.proofs.LoadImmediate.{li_valid}
use Rattle.accesses.proofs.Lengths.{li_length, sub_stack_length}
use Rattle.accesses.proofs.Stack.{sub_stack_valid, add_stack_valid, allocate_stack_valid}
use Rattle.reading.specs.Size.{frame_size, stack_size}
use Rattle.ast.specs.Mask.{saved}
use Rattle.frame_code.specs.Items.{code, mv, kept, opening, closing, loads_from, states_from, state_copy, obs_copy, times_over, count_down, repeated, at_main, at_pro, at_epi, at_done, by_frame, prologue_fast, prologue_indirect, epilogue_fast, epilogue_indirect, prologue, epilogue, save, reload, saves, reloads}
use Rattle.frame_code.specs.Inner.Copies.{copy_first, copy_each}
use Rattle.ast.specs.Counts.{frame_holds, result_limit, result_holds, prologue_holds, epilogue_holds}
use Rattle.frame_code.proofs.Walk.{further, Stands, stands_code, stands_left, stands_right}
use Rattle.frame_code.proofs.Listed.{save_list_valid, reload_list_valid}
use Rattle.frame_code.proofs.Count.{repeated_words}
use Rattle.frame_code.proofs.Indirect.{forward}

-- each is valid where it stands, the first of them being at `here`
abbrev pub AllValid : (ℕ → ℕ) → ℕ → List Item → Type 0
AllValid at here [] = Unit {0}
AllValid at here (instr i ∷ is) = Valid i × AllValid at (here + 4) is
AllValid at here (raw w ∷ is) = AllValid at (here + 4) is
AllValid at here (jump k l r ∷ is) = Valid (jump_instr k r (sub_ℕ (at l) here)) × AllValid at (here + 4) is
AllValid at here (label l ∷ is) = AllValid at here is

module _ (at : ℕ → ℕ) where
  valid_code : (here : ℕ) (is : List Instr) → Valids is → AllValid at here (code is)
  valid_code here [] v = tt
  valid_code here (i ∷ is) v = (v.0, valid_code (here + 4) is v.1)

  -- one list behind another
  valid_join : (here : ℕ) (is js : List Item) → AllValid at here is → AllValid at (here + 4 * length (resolved at here is)) js → AllValid at here (is ++ js)
  unfolding resolved
  valid_join here [] js v w = let e : here + 4 * 0 ≡ here = omega arith in rw e at w
  valid_join here (instr i ∷ is) js v w = (v.0, valid_join (here + 4) is js v.1 (rw (further here (length (resolved at (here + 4) is))) w))
  valid_join here (raw x ∷ is) js v w = valid_join (here + 4) is js v (rw (further here (length (resolved at (here + 4) is))) w)
  valid_join here (jump k l r ∷ is) js v w = (v.0, valid_join (here + 4) is js v.1 (rw (further here (length (resolved at (here + 4) is))) w))
  valid_join here (label l ∷ is) js v w = valid_join here is js v w

  -- a piece of code, then the rest
  valid_then : (here : ℕ) (is : List Instr) (js : List Item) → Valids is → AllValid at (here + 4 * length is) js → AllValid at here (code is ++ js)
  valid_then here [] js v w = let e : here + 4 * 0 ≡ here = omega arith in rw e at w
  valid_then here (i ∷ is) js v w = (v.0, valid_then (here + 4) is js v.1 (rw (further here (length is)) w))

-- ---- pieces

pub opening_valid : (F : Frame) → Valids (opening F)
opening_valid Fast = valids_join (sub_stack_code 32) _ (sub_stack_valid 32) (omega arith)
opening_valid Indirect = valids_join (sub_stack_code 64) _ (sub_stack_valid 64) (omega arith)

restoring_valid : Valids (R XOR 10 10 10 ∷ I JALR 0 1 (pos 0) ∷ [])
restoring_valid = omega arith

pub closing_valid : (F : Frame) → Valids (closing F)
closing_valid Fast =
    valids_join (mv 2 8 ∷ loads_from 0 (kept Fast)) (add_stack_code 32 ++ (R XOR 10 10 10 ∷ I JALR 0 1 (pos 0) ∷ [])) (omega arith)
    (valids_join (add_stack_code 32) (R XOR 10 10 10 ∷ I JALR 0 1 (pos 0) ∷ []) (add_stack_valid 32) restoring_valid)
closing_valid Indirect =
    valids_join (mv 2 8 ∷ loads_from 0 (kept Indirect)) (add_stack_code 64 ++ (R XOR 10 10 10 ∷ I JALR 0 1 (pos 0) ∷ [])) (omega arith)
    (valids_join (add_stack_code 64) (R XOR 10 10 10 ∷ I JALR 0 1 (pos 0) ∷ []) (add_stack_valid 64) restoring_valid)

pub states_valid : (i k : ℕ) → i + k ≤ 8 → Valids (states_from i k)
states_valid i zero h = tt
states_valid i (suc k) h = (omega arith, states_valid (suc i) k (omega arith))

pub first_valid : (out : Bool) (m : ℕ) → Valids (copy_first out m)
first_valid true m = valids_join (li_code 6 (pos (8 * m))) (R ADD 6 6 9 ∷ []) (li_valid 6 (pos (8 * m)) (omega arith)) (omega arith)
first_valid false m = omega arith

pub each_valid : (out : Bool) → Valids (copy_each out)
each_valid true = omega arith
each_valid false = omega arith

over_valid : (n : ℕ) (each : List Instr) → Valids each → Valids (times_over n each)
over_valid zero each v = tt
over_valid (suc n) each v = valids_join each (times_over n each) v (over_valid n each v)

module _ (at : ℕ → ℕ) (here n l : ℕ) (first each : List Instr) (six : length each ≡ 6) (v : Valids first) (w : Valids each) where
  abbrev start : List Instr
  start = first ++ li_code 7 (pos n)

  abbrev inner : List Item
  inner = code (each ++ (count_down ∷ [])) ++ (jump Bne l 0 ∷ [])

  -- the loop's jump goes back over seven words
  back_valid : (p there : ℕ) → p ≡ there → Valid (jump_instr Bne 0 (sub_ℕ p (there + 28)))
  back_valid p there e =
      let z : sub_ℕ there (there + 28) ≡ negsuc 27 = rw (lt-ltb there (there + 28) (omega arith)) (ap negsuc (omega arith)) in
      rw (e, z) (omega arith)

  repeated_valid : Stands at here (repeated n first each l) → AllValid at here (repeated n first each l)
  unfolding repeated
  repeated_valid s = by (eqb n 0) (leb n 16) s
    where
      seven : length (each ++ (count_down ∷ [])) ≡ 7
      seven = omega (arith, length-append each (count_down ∷ []), six)

      by : (z t : Bool) → Stands at here (cond z [] (cond t (code (first ++ times_over n each)) (code start ++ (label l ∷ inner)))) → AllValid at here (cond z [] (cond t (code (first ++ times_over n each)) (code start ++ (label l ∷ inner))))
      by true t s = tt
      by false true s = valid_code at here (first ++ times_over n each) (valids_join first (times_over n each) v (over_valid n each w))
      by false false s =
          let there = here + 4 * length start in
          let q = stands_code at here start (label l ∷ inner) s in
          valid_then at here start (label l ∷ inner) (valids_join first (li_code 7 (pos n)) v (li_valid 7 (pos n) (omega arith)))
          (valid_then at there (each ++ (count_down ∷ [])) (jump Bne l 0 ∷ []) (valids_join each (count_down ∷ []) w (omega arith)) (rw seven (back_valid (at l) there q.0, tt)))

-- a branch forward over `way` words, its own among them
branch_valid : (p here way : ℕ) → p ≡ here + 4 * way → way < 1024 → Valid (jump_instr Beq 0 (sub_ℕ p here))
branch_valid p here way e h = rw (e, forward here way) (omega arith)

-- ---- the frames

module _ (at : ℕ → ℕ) (here : ℕ) where
  pub saves_valid : (mask : ℕ) → AllValid at here (saves mask)
  unfolding saves
  saves_valid mask = valid_code at here (map save (saved mask)) (save_list_valid mask)

  pub reloads_valid : (mask : ℕ) → AllValid at here (reloads mask)
  unfolding reloads
  reloads_valid mask = (omega arith, valid_code at (here + 4) (map reload (saved mask)) (reload_list_valid mask))

  pub prologue_valid : (H : Head) → T (prologue_holds H) → Stands at here (prologue H) → AllValid at here (prologue H)
  unfolding prologue
  prologue_valid H = by H.frame
    where
      by : (F : Frame) → T (leb H.cap 4096 && (leb (cells H) 4096 && frame_holds H F)) → Stands at here (by_frame F (prologue_fast H) (prologue_indirect H)) → AllValid at here (by_frame F (prologue_fast H) (prologue_indirect H))
      by Fast h s =
          let few : H.states ≤ 8 = leb→le H.states 8 (and_r (leb (cells H) 4096) _ (and_r (leb H.cap 4096) _ h)) in
          let rest = mv 21 2 ∷ states_from 0 H.states in
          let more = mv 9 2 ∷ (sub_stack_code (stack_size H) ++ rest) in
          valid_code at here (opening Fast ++ (sub_stack_code (frame_size H) ++ more))
          (valids_join (opening Fast) (sub_stack_code (frame_size H) ++ more) (opening_valid Fast)
          (valids_join (sub_stack_code (frame_size H)) more (sub_stack_valid (frame_size H))
          (omega arith, valids_join (sub_stack_code (stack_size H)) rest (sub_stack_valid (stack_size H)) (omega arith, states_valid 0 H.states (omega arith)))))
      by Indirect h s =
          let first = opening Indirect ++ (mv 9 10 ∷ mv 18 11 ∷ mv 19 12 ∷ mv 20 13 ∷ []) in
          let down = sub_stack_code (frame_size H) ++ (mv 9 2 ∷ Shift SLLI 19 19 (pos 3) ∷ []) in
          let copies = repeated H.states (mv 6 9 ∷ []) state_copy at_pro in
          let up = label at_main ∷ code (allocate_stack_code (stack_size H)) in
          let h1 = here + 4 * length first in
          let h2 = h1 + 4 + 4 * length down in
          let s1 = stands_code at here first _ s.1 in
          let s2 = stands_code at (h1 + 4) down _ s1 in
          valid_then at here first (jump Beq at_main 0 ∷ (code down ++ (copies ++ up))) (valids_join (opening Indirect) _ (opening_valid Indirect) (omega arith)) (
            branch_valid (at at_main) h1 (1 + length down + length (resolved at h2 copies)) ((stands_right at h2 copies up s2).0 ∙ omega arith) (omega (arith, length-append (sub_stack_code (frame_size H)) (mv 9 2 ∷ Shift SLLI 19 19 (pos 3) ∷ []), sub_stack_length (frame_size H), repeated_words at h2 H.states at_pro (mv 6 9 ∷ []) state_copy refl)),
            valid_then at (h1 + 4) down (copies ++ up) (valids_join (sub_stack_code (frame_size H)) _ (sub_stack_valid (frame_size H)) (omega arith))
                (valid_join at h2 copies up (repeated_valid at h2 H.states at_pro (mv 6 9 ∷ []) state_copy refl (omega arith) (omega arith) (stands_left at h2 copies up s2))
                (valid_code at (h2 + 4 * length (resolved at h2 copies)) (allocate_stack_code (stack_size H)) (allocate_stack_valid (stack_size H)))),
          )

  pub epilogue_valid : (H : Head) → T (epilogue_holds H) → Stands at here (epilogue H) → AllValid at here (epilogue H)
  unfolding epilogue
  epilogue_valid H = by H.frame
    where
      by : (F : Frame) → T ((leb H.cap 4096 && (leb (cells H) 4096 && frame_holds H F)) && result_holds H F) → Stands at here (by_frame F (epilogue_fast H) (epilogue_indirect H)) → AllValid at here (by_frame F (epilogue_fast H) (epilogue_indirect H))
      by Fast h s =
          let near : H.last ≤ result_limit = leb→le H.last result_limit (and_l (leb H.last result_limit) _ (and_r (leb H.cap 4096 && (leb (cells H) 4096 && leb H.states 8)) _ h)) in
          (omega arith, valid_code at (here + 4) (closing Fast) (closing_valid Fast))
      by Indirect h s =
          let first = li_code 6 (pos (8 * H.states)) ++ (R ADD 6 6 9 ∷ []) in
          let copies = repeated H.obs first obs_copy at_epi in
          let down = label at_done ∷ code (closing Indirect) in (
            branch_valid (at at_done) here (1 + length (resolved at (here + 4) copies)) ((stands_right at (here + 4) copies down s).0 ∙ omega arith) (omega (arith, repeated_words at (here + 4) H.obs at_epi first obs_copy refl, length-append (li_code 6 (pos (8 * H.states))) (R ADD 6 6 9 ∷ []), li_length 6 (pos (8 * H.states)))),
            valid_join at (here + 4) copies down (repeated_valid at (here + 4) H.obs at_epi first obs_copy refl (first_valid true H.states) (omega arith) (stands_left at (here + 4) copies down s))
                (valid_code at (here + 4 + 4 * length (resolved at (here + 4) copies)) (closing Indirect) (closing_valid Indirect)),
          )
