-- How many words the whole frames have, their labels, where their jumps go, and how they are parted. Assumes nothing.
use mathlib.Core.Path.{◌≡◌, refl, sym, ap, subst, ◌∙◌}
use mathlib.Core.Bool.{true, false, cond}
use mathlib.Core.List.{List, [], ◌∷◌, ◌++◌, map, append_assoc, append-nil}
use Prim.Native.Nat.{ℕ, ◌+◌, ◌*◌, ◌≤◌}
use native.Mathlib.Omega.{arith}
use lib.Dec.{ltb}
use lib.IntN.{ℤ, pos, neg_ℤ, ◌-ℤ◌}
use mir.Syntax.{w32}
use mir.Val.{to_z, of_z}
use lib.ListN.{length, length-append}
use Rattle.isa.specs.Instr.{Instr, I, Shift, ADDI, FLD, SLLI}
use Rattle.ast.specs.declared.Frame.{Frame}
use Rattle.ast.specs.declared.Frame.TheVariants.{Fast, Indirect}
use Rattle.ast.specs.declared.Head.{Head}
use Rattle.assembler.specs.Item.{Item, jump, label}
use Rattle.assembler.specs.State.{State}
use Rattle.assembler.specs.Put.{words, targets, labels, verdict, put_number, put}
use Rattle.assembler.specs.declared.JumpKind.TheVariants.{Beq}
use Rattle.assembler.proofs.Items.{words_append, targets_append, labels_append, targets_instrs, labels_instrs}
use Rattle.assembler.specs.Plan.{no_words, pushed, earlier, sets_fault}
use Rattle.accesses.specs.Plans.{answer_of, pushes_from, plan_of}
use Rattle.accesses.specs.Code.{sub_stack_code, add_stack_code, allocate_stack_code}
use Rattle.reading.specs.Size.{frame_size, stack_size, save_size}
use Rattle.frame_code.specs.Items.{code, mv, kept, stores_from, opening, closing, states_from, prologue_fast, prologue_indirect, epilogue_fast, epilogue_indirect, by_frame, prologue, epilogue, at_main, at_done, at_self, at_pro, at_epi}
use Rattle.frame_code.specs.Inner.Copies.{copies}
use Rattle.frame_code.proofs.Fast.{states_length}
use Rattle.frames.specs.Inner.Whole.{entry}
use Rattle.frames.proofs.Parts.{Left, words_code, jumps_code, untagged}
use Rattle.frames.proofs.Sizes.{code_number, copies_targets, copies_labels}

pub opening_few : (F : Frame) → length (opening F) ≤ 12
unfolding sub_stack_code
opening_few Fast = omega arith
opening_few Indirect = omega arith

pub closing_few : (F : Frame) → length (closing F) ≤ 11
unfolding add_stack_code
closing_few Fast = omega arith
closing_few Indirect = omega arith

-- a frame's registers, and the bytes for them as they are handed on
pub opening_starts : (F : Frame) → plan_of (opening F) ≡ pushes_from (pushed no_words (answer_of (I ADDI 2 2 (neg_ℤ (pos (save_size F)))))) (map answer_of (stores_from 0 (kept F) ++ (mv 8 2 ∷ [])))
unfolding sub_stack_code
opening_starts Fast = refl
opening_starts Indirect = refl

pub added : (F : Frame) → add_stack_code (save_size F) ≡ I ADDI 2 2 (pos (save_size F)) ∷ []
unfolding add_stack_code
added Fast = refl
added Indirect = refl

pub size_back : (F : Frame) (z : ℤ) → z ≡ pos (save_size F) → (to_z w32 (of_z w32 z) ≡ pos (save_size F)) × (to_z w32 (of_z w32 (pos 0 -ℤ to_z w32 (of_z w32 z))) ≡ neg_ℤ (pos (save_size F)))
size_back Fast z e = rw e (refl, refl)
size_back Indirect z e = rw e (refl, refl)

pub kept_few : (F : Frame) → length (kept F) ≤ 7
kept_few Fast = omega arith
kept_few Indirect = omega arith

-- ---- the fast frame

pub states_few : (n : ℕ) → n ≤ 8 → length (mv 21 2 ∷ states_from 0 n) ≤ 12
states_few n h = omega (arith, states_length 0 n)

start_length : (is js : List Instr) (n : ℕ) → length (opening Fast ++ (is ++ (mv 9 2 ∷ (js ++ (mv 21 2 ∷ states_from 0 n))))) ≡ length is + length js + 8 + n
unfolding sub_stack_code
start_length is js n =
    omega (arith, length-append is (mv 9 2 ∷ (js ++ (mv 21 2 ∷ states_from 0 n))), length-append js (mv 21 2 ∷ states_from 0 n), states_length 0 n)

abbrev start_list : Head → List Instr
start_list H = opening Fast ++ (sub_stack_code (frame_size H) ++ (mv 9 2 ∷ (sub_stack_code (stack_size H) ++ (mv 21 2 ∷ states_from 0 H.states))))

pub fast_number : (H : Head) (x y : ℕ) (s : State) → x ≡ length (sub_stack_code (frame_size H)) → y ≡ length (sub_stack_code (stack_size H))
    → verdict 0 [] [] (x + y + 8 + H.states) s ≡ put_number 0 (prologue_fast H) s
fast_number H x y s e f =
    code_number (start_list H) (x + y + 8 + H.states) s
    (rw (e, f) (sym (start_length (sub_stack_code (frame_size H)) (sub_stack_code (stack_size H)) H.states)))

-- ---- the indirect frame

abbrev pub arguments : List Instr
arguments = mv 9 10 ∷ mv 18 11 ∷ mv 19 12 ∷ mv 20 13 ∷ []

pub entry_number : (s : State) → verdict 0 (at_self ∷ []) (at_main ∷ []) 14 s ≡ put_number 0 entry s
unfolding entry sub_stack_code words targets labels
entry_number s = refl

entry_words : length (words entry) ≡ 14
unfolding entry sub_stack_code words
entry_words = refl

entry_targets : targets entry ≡ at_main ∷ []
unfolding entry sub_stack_code targets
entry_targets = refl

entry_labels : labels entry ≡ at_self ∷ []
unfolding entry sub_stack_code labels
entry_labels = refl

-- items, a label and code
module _ (is : List Item) (l : ℕ) (js : List Instr) where
  then_words : length (words (is ++ (label l ∷ code js))) ≡ length (words is) + length js
  unfolding words
  then_words = ap length (words_append is (label l ∷ code js)) ∙ length-append (words is) (words (code js)) ∙ ap (λ (k : ℕ). length (words is) + k) (words_code js)

  then_targets : targets (is ++ (label l ∷ code js)) ≡ targets is
  unfolding targets
  then_targets = targets_append is (label l ∷ code js) ∙ ap (λ (ks : List ℕ). targets is ++ ks) (targets_instrs js) ∙ append-nil (targets is)

  then_labels : labels (is ++ (label l ∷ code js)) ≡ labels is ++ (l ∷ [])
  unfolding labels
  then_labels = labels_append is (label l ∷ code js) ∙ ap (λ (ks : List ℕ). labels is ++ (l ∷ ks)) (labels_instrs js)

abbrev pub down : Head → List Instr
down H = sub_stack_code (frame_size H) ++ (mv 9 2 ∷ Shift SLLI 19 19 (pos 3) ∷ [])

abbrev pub up : Head → List Item
up H = copies false H.states H.states ++ (label at_main ∷ code (allocate_stack_code (stack_size H)))

start_parts : (H : Head) → prologue_indirect H ≡ entry ++ (code (down H) ++ up H)
unfolding entry
start_parts H = ap (λ (is : List Item). label at_self ∷ is) (sym (append_assoc (code (opening Indirect ++ arguments)) (jump Beq at_main 0 ∷ []) (code (down H) ++ up H)))

pub start_left : (H : Head) (tag : ℕ) {all : List Item} {s t : State} → Left tag all s (prologue_indirect H) t → Left tag all s (entry ++ (code (down H) ++ up H)) t
start_left H tag {all} {s} {t} a = subst (λ (is : List Item). Left tag all s is t) (start_parts H) a

module _ (H : Head) where
  abbrev n : ℕ
  n = H.states

  start_words : length (words (prologue_indirect H)) ≡ 16 + length (sub_stack_code (frame_size H)) + length (words (copies false n n)) + length (allocate_stack_code (stack_size H))
  start_words =
      ap (λ (is : List Item). length (words is)) (start_parts H)
      ∙ ap length (words_append entry (code (down H) ++ up H) ∙ ap (λ (ws : List ℕ). words entry ++ ws) (words_append (code (down H)) (up H)))
      ∙ length-append (words entry) (words (code (down H)) ++ words (up H))
      ∙ omega (arith, entry_words, length-append (words (code (down H))) (words (up H)), words_code (down H), length-append (sub_stack_code (frame_size H)) (mv 9 2 ∷ Shift SLLI 19 19 (pos 3) ∷ []), then_words (copies false n n) at_main (allocate_stack_code (stack_size H)))

  pub start_targets : targets (prologue_indirect H) ≡ at_main ∷ cond (ltb 16 n) (at_pro ∷ []) []
  start_targets =
      ap targets (start_parts H)
      ∙ targets_append entry (code (down H) ++ up H)
      ∙ rw (entry_targets, targets_append (code (down H)) (up H), targets_instrs (down H), then_targets (copies false n n) at_main (allocate_stack_code (stack_size H)), copies_targets false n n)

  start_labels : labels (prologue_indirect H) ≡ at_self ∷ (cond (ltb 16 n) (at_pro ∷ []) [] ++ (at_main ∷ []))
  start_labels =
      ap labels (start_parts H)
      ∙ labels_append entry (code (down H) ++ up H)
      ∙ rw (entry_labels, labels_append (code (down H)) (up H), labels_instrs (down H), then_labels (copies false n n) at_main (allocate_stack_code (stack_size H)), copies_labels false n n)

  -- x, y and z words for `mem`, the copies and `stack`
  pub start_number : (s : State) (ls ts : List ℕ) (x y z : ℕ) → ls ≡ at_self ∷ (cond (ltb 16 n) (at_pro ∷ []) [] ++ (at_main ∷ [])) → sets_fault ls ≡ 0 → ts ≡ at_main ∷ cond (ltb 16 n) (at_pro ∷ []) []
      → x ≡ length (sub_stack_code (frame_size H)) → y ≡ length (words (copies false n n)) → z ≡ length (allocate_stack_code (stack_size H))
      → verdict (earlier 0 (sets_fault ls)) ls ts (16 + x + y + z) s ≡ put_number 0 (prologue_indirect H) s
  start_number s ls ts x y z e k i f g h = rw (k, start_words, start_targets, start_labels, e, i, f, g, h)

  abbrev c : List Item
  c = copies true n H.obs

  end_words : length (words (epilogue_indirect H)) ≡ 12 + length (words c)
  unfolding words add_stack_code
  end_words = omega (arith, then_words c at_done (closing Indirect))

  pub end_targets : targets (epilogue_indirect H) ≡ at_done ∷ cond (ltb 16 H.obs) (at_epi ∷ []) []
  unfolding targets
  end_targets = ap (λ (ks : List ℕ). at_done ∷ ks) (then_targets c at_done (closing Indirect) ∙ copies_targets true n H.obs)

  end_labels : labels (epilogue_indirect H) ≡ cond (ltb 16 H.obs) (at_epi ∷ []) [] ++ (at_done ∷ [])
  unfolding labels
  end_labels = then_labels c at_done (closing Indirect) ∙ rw (copies_labels true n H.obs)

  -- y words of the copies
  pub end_number : (s : State) (ls ts : List ℕ) (y : ℕ) → ls ≡ cond (ltb 16 H.obs) (at_epi ∷ []) [] ++ (at_done ∷ []) → sets_fault ls ≡ 0 → ts ≡ at_done ∷ cond (ltb 16 H.obs) (at_epi ∷ []) [] → y ≡ length (words c)
      → verdict (earlier 0 (sets_fault ls)) ls ts (12 + y) s ≡ put_number 0 (epilogue_indirect H) s
  end_number s ls ts y e k g f = rw (k, end_words, end_targets, end_labels, e, g, f)

-- ---- by the frame

module _ (H : Head) where
  pub prologue_alone : [] ≡ targets (prologue_fast H)
  prologue_alone = sym (targets_instrs (start_list H))

  pub epilogue_alone : [] ≡ targets (epilogue_fast H)
  epilogue_alone = sym (targets_instrs (I FLD 10 9 (pos (8 * H.last)) ∷ closing Fast))

  -- where the jumps go
  pub prologue_goes : (F : Frame) (ts : List ℕ) → H.frame ≡ F → ts ≡ targets (by_frame F (prologue_fast H) (prologue_indirect H)) → ts ≡ targets (prologue H)
  unfolding prologue
  prologue_goes F ts e g = g ∙ ap (λ (G : Frame). targets (by_frame G (prologue_fast H) (prologue_indirect H))) (sym e)

  pub epilogue_goes : (F : Frame) (ts : List ℕ) → H.frame ≡ F → ts ≡ targets (by_frame F (epilogue_fast H) (epilogue_indirect H)) → ts ≡ targets (epilogue H)
  unfolding epilogue
  epilogue_goes F ts e g = g ∙ ap (λ (G : Frame). targets (by_frame G (epilogue_fast H) (epilogue_indirect H))) (sym e)

module _ (H : Head) (tag : ℕ) (s : State) where
  pub prologue_is_fast : H.frame ≡ Fast → put 0 0 (prologue_fast H) s ≡ put tag 0 (prologue H) s
  unfolding prologue
  prologue_is_fast e = rw e (untagged 0 tag 0 (prologue_fast H) s (jumps_code (start_list H)))

  pub prologue_is_indirect : H.frame ≡ Indirect → put tag 0 (prologue_indirect H) s ≡ put tag 0 (prologue H) s
  unfolding prologue
  prologue_is_indirect e = rw e

  pub epilogue_is_fast : H.frame ≡ Fast → put 0 0 (epilogue_fast H) s ≡ put tag 0 (epilogue H) s
  unfolding epilogue
  epilogue_is_fast e = rw e (untagged 0 tag 0 (epilogue_fast H) s (jumps_code (I FLD 10 9 (pos (8 * H.last)) ∷ closing Fast)))

  pub epilogue_is_indirect : H.frame ≡ Indirect → put tag 0 (epilogue_indirect H) s ≡ put tag 0 (epilogue H) s
  unfolding epilogue
  epilogue_is_indirect e = rw e
