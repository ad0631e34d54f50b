use borrow.Author.Rules.{rules}
use native.Mathlib.Omega.{arith}
use mathlib.Core.Path.{refl, ap, ◌∙◌}
use mathlib.Core.Bool.{false}
use mathlib.Core.List.{[], ◌∷◌, ◌++◌}
use Prim.Native.Nat.{ℕ}
use lib.IntN.{pos}
use lib.ListN.{length}
use Rattle.assembler.specs.State.{before}
use Rattle.assembler.specs.Item.{label}
use Rattle.assembler.proofs.Steps.{put_refused}
use Rattle.accesses.proofs.Collect.{answered, collected}
use Rattle.accesses.proofs.Placed.{plan_code}
use Rattle.frames.proofs.Parts.{opens, piece, not_refused, closes, fronted, label_set, size_put}
use Rattle.isa.specs.Instr.{Shift, SLLI}
use Rattle.accesses.specs.Code.{sub_stack_code, allocate_stack_code}
use Rattle.reading.specs.Size.{frame_size, stack_size}
use Rattle.frame_code.specs.Items.{code, mv, prologue_indirect, at_main}
use Rattle.frame_code.specs.Inner.Copies.{copies}
use Rattle.frames.specs.Inner.Whole.{entry}
use Rattle.frames.proofs.Wholes.{down, up, start_left, start_number}
use Rattle.frames.proofs.indirect_start.Goals as goal

pub returns-in_err-check_whole-clause-whole : goal.returns-in_err-check_whole-clause-whole
returns-in_err-check_whole-clause-whole c =
    let a = c.args in
    let s = before a.asm.now in
    let H = a.head in
    let mem = sub_stack_code (frame_size H) in
    let two = mv 9 2 ∷ Shift SLLI 19 19 (pos 3) ∷ [] in
    let stack = allocate_stack_code (stack_size H) in
    put_refused a.tag 0 (prologue_indirect H) s _ _ _ (start_number H s _ _ _ _ _ c.start_sets-sets.ensures.0 c.start_sets-sets.ensures.1 c.start_goes.ensures (c.sub_words.ensures.0 ∙ ap (λ (k : ℕ). length (sub_stack_code k)) c.size_of-mem.ensures.0) c.copy_words.ensures.0 (c.allocate_words.ensures.0 ∙ ap (λ (k : ℕ). length (allocate_stack_code k)) c.size_of-stack.ensures.0)) (search rules) c.in_err-check_whole.ensures.whole

pub returns-in_err-enter-clause-whole : goal.returns-in_err-enter-clause-whole
returns-in_err-enter-clause-whole c =
    let a = c.args in
    let s = before a.asm.now in
    let H = a.head in
    let mem = sub_stack_code (frame_size H) in
    let two = mv 9 2 ∷ Shift SLLI 19 19 (pos 3) ∷ [] in
    let stack = allocate_stack_code (stack_size H) in
    let l0 = opens a.tag (prologue_indirect H) s _ (start_number H s _ _ _ _ _ c.start_sets-sets.ensures.0 c.start_sets-sets.ensures.1 c.start_goes.ensures (c.sub_words.ensures.0 ∙ ap (λ (k : ℕ). length (sub_stack_code k)) c.size_of-mem.ensures.0) c.copy_words.ensures.0 (c.allocate_words.ensures.0 ∙ ap (λ (k : ℕ). length (allocate_stack_code k)) c.size_of-stack.ensures.0)) c.in_ok-check_whole.ensures.whole in
    not_refused (entry) (code (down H) ++ up H) (start_left H a.tag l0) (c.in_err-enter.ensures.whole)

pub returns-in_err-sub_stack-clause-whole : goal.returns-in_err-sub_stack-clause-whole
returns-in_err-sub_stack-clause-whole c =
    let a = c.args in
    let s = before a.asm.now in
    let H = a.head in
    let mem = sub_stack_code (frame_size H) in
    let two = mv 9 2 ∷ Shift SLLI 19 19 (pos 3) ∷ [] in
    let stack = allocate_stack_code (stack_size H) in
    let l0 = opens a.tag (prologue_indirect H) s _ (start_number H s _ _ _ _ _ c.start_sets-sets.ensures.0 c.start_sets-sets.ensures.1 c.start_goes.ensures (c.sub_words.ensures.0 ∙ ap (λ (k : ℕ). length (sub_stack_code k)) c.size_of-mem.ensures.0) c.copy_words.ensures.0 (c.allocate_words.ensures.0 ∙ ap (λ (k : ℕ). length (allocate_stack_code k)) c.size_of-stack.ensures.0)) c.in_ok-check_whole.ensures.whole in
    let l1 = piece (entry) (code (down H) ++ up H) (start_left H a.tag l0) (c.in_ok-enter.ensures.whole) in
    not_refused (code mem) (code two ++ up H) (fronted mem two (up H) l1) (c.in_err-sub_stack.ensures.whole ∙ size_put a.tag sub_stack_code _ (frame_size H) _ c.size_of-mem.ensures.0 c.size_of-mem.ensures.1)

pub returns-in_err-place-clause-whole : goal.returns-in_err-place-clause-whole
returns-in_err-place-clause-whole c =
    let a = c.args in
    let s = before a.asm.now in
    let H = a.head in
    let mem = sub_stack_code (frame_size H) in
    let two = mv 9 2 ∷ Shift SLLI 19 19 (pos 3) ∷ [] in
    let stack = allocate_stack_code (stack_size H) in
    let l0 = opens a.tag (prologue_indirect H) s _ (start_number H s _ _ _ _ _ c.start_sets-sets.ensures.0 c.start_sets-sets.ensures.1 c.start_goes.ensures (c.sub_words.ensures.0 ∙ ap (λ (k : ℕ). length (sub_stack_code k)) c.size_of-mem.ensures.0) c.copy_words.ensures.0 (c.allocate_words.ensures.0 ∙ ap (λ (k : ℕ). length (allocate_stack_code k)) c.size_of-stack.ensures.0)) c.in_ok-check_whole.ensures.whole in
    let l1 = piece (entry) (code (down H) ++ up H) (start_left H a.tag l0) (c.in_ok-enter.ensures.whole) in
    let l2 = piece (code mem) (code two ++ up H) (fronted mem two (up H) l1) (c.in_ok-sub_stack.ensures.whole ∙ size_put a.tag sub_stack_code _ (frame_size H) _ c.size_of-mem.ensures.0 c.size_of-mem.ensures.1) in
    not_refused (code two) (up H) (l2) (c.in_err-place.ensures.whole ∙ plan_code _ two (c.plan-p.ensures ∙ collected (c.mv.result ∷ c.slli.result ∷ []) two (answered _ _ c.mv.ensures, (answered _ _ c.slli.ensures, tt))) (omega arith) (omega arith) a.tag _)

pub returns-in_err-copies-clause-whole : goal.returns-in_err-copies-clause-whole
returns-in_err-copies-clause-whole c =
    let a = c.args in
    let s = before a.asm.now in
    let H = a.head in
    let mem = sub_stack_code (frame_size H) in
    let two = mv 9 2 ∷ Shift SLLI 19 19 (pos 3) ∷ [] in
    let stack = allocate_stack_code (stack_size H) in
    let l0 = opens a.tag (prologue_indirect H) s _ (start_number H s _ _ _ _ _ c.start_sets-sets.ensures.0 c.start_sets-sets.ensures.1 c.start_goes.ensures (c.sub_words.ensures.0 ∙ ap (λ (k : ℕ). length (sub_stack_code k)) c.size_of-mem.ensures.0) c.copy_words.ensures.0 (c.allocate_words.ensures.0 ∙ ap (λ (k : ℕ). length (allocate_stack_code k)) c.size_of-stack.ensures.0)) c.in_ok-check_whole.ensures.whole in
    let l1 = piece (entry) (code (down H) ++ up H) (start_left H a.tag l0) (c.in_ok-enter.ensures.whole) in
    let l2 = piece (code mem) (code two ++ up H) (fronted mem two (up H) l1) (c.in_ok-sub_stack.ensures.whole ∙ size_put a.tag sub_stack_code _ (frame_size H) _ c.size_of-mem.ensures.0 c.size_of-mem.ensures.1) in
    let l3 = piece (code two) (up H) (l2) (c.in_ok-place.ensures.whole ∙ plan_code _ two (c.plan-p.ensures ∙ collected (c.mv.result ∷ c.slli.result ∷ []) two (answered _ _ c.mv.ensures, (answered _ _ c.slli.ensures, tt))) (omega arith) (omega arith) a.tag _) in
    not_refused (copies false H.states H.states) (label at_main ∷ code stack) (l3) (c.in_err-copies.ensures.whole)

pub returns-in_err-set_label-clause-whole : goal.returns-in_err-set_label-clause-whole
returns-in_err-set_label-clause-whole c =
    let a = c.args in
    let s = before a.asm.now in
    let H = a.head in
    let mem = sub_stack_code (frame_size H) in
    let two = mv 9 2 ∷ Shift SLLI 19 19 (pos 3) ∷ [] in
    let stack = allocate_stack_code (stack_size H) in
    let l0 = opens a.tag (prologue_indirect H) s _ (start_number H s _ _ _ _ _ c.start_sets-sets.ensures.0 c.start_sets-sets.ensures.1 c.start_goes.ensures (c.sub_words.ensures.0 ∙ ap (λ (k : ℕ). length (sub_stack_code k)) c.size_of-mem.ensures.0) c.copy_words.ensures.0 (c.allocate_words.ensures.0 ∙ ap (λ (k : ℕ). length (allocate_stack_code k)) c.size_of-stack.ensures.0)) c.in_ok-check_whole.ensures.whole in
    let l1 = piece (entry) (code (down H) ++ up H) (start_left H a.tag l0) (c.in_ok-enter.ensures.whole) in
    let l2 = piece (code mem) (code two ++ up H) (fronted mem two (up H) l1) (c.in_ok-sub_stack.ensures.whole ∙ size_put a.tag sub_stack_code _ (frame_size H) _ c.size_of-mem.ensures.0 c.size_of-mem.ensures.1) in
    let l3 = piece (code two) (up H) (l2) (c.in_ok-place.ensures.whole ∙ plan_code _ two (c.plan-p.ensures ∙ collected (c.mv.result ∷ c.slli.result ∷ []) two (answered _ _ c.mv.ensures, (answered _ _ c.slli.ensures, tt))) (omega arith) (omega arith) a.tag _) in
    let l4 = piece (copies false H.states H.states) (label at_main ∷ code stack) (l3) (c.in_ok-copies.ensures.whole) in
    not_refused (label at_main ∷ []) (code stack) (l4) (c.in_err-set_label.ensures.whole ∙ label_set a.tag at_main at_main refl (omega arith) _)

pub returns-clause-whole : goal.returns-clause-whole
returns-clause-whole c =
    let a = c.args in
    let s = before a.asm.now in
    let H = a.head in
    let mem = sub_stack_code (frame_size H) in
    let two = mv 9 2 ∷ Shift SLLI 19 19 (pos 3) ∷ [] in
    let stack = allocate_stack_code (stack_size H) in
    let l0 = opens a.tag (prologue_indirect H) s _ (start_number H s _ _ _ _ _ c.start_sets-sets.ensures.0 c.start_sets-sets.ensures.1 c.start_goes.ensures (c.sub_words.ensures.0 ∙ ap (λ (k : ℕ). length (sub_stack_code k)) c.size_of-mem.ensures.0) c.copy_words.ensures.0 (c.allocate_words.ensures.0 ∙ ap (λ (k : ℕ). length (allocate_stack_code k)) c.size_of-stack.ensures.0)) c.in_ok-check_whole.ensures.whole in
    let l1 = piece (entry) (code (down H) ++ up H) (start_left H a.tag l0) (c.in_ok-enter.ensures.whole) in
    let l2 = piece (code mem) (code two ++ up H) (fronted mem two (up H) l1) (c.in_ok-sub_stack.ensures.whole ∙ size_put a.tag sub_stack_code _ (frame_size H) _ c.size_of-mem.ensures.0 c.size_of-mem.ensures.1) in
    let l3 = piece (code two) (up H) (l2) (c.in_ok-place.ensures.whole ∙ plan_code _ two (c.plan-p.ensures ∙ collected (c.mv.result ∷ c.slli.result ∷ []) two (answered _ _ c.mv.ensures, (answered _ _ c.slli.ensures, tt))) (omega arith) (omega arith) a.tag _) in
    let l4 = piece (copies false H.states H.states) (label at_main ∷ code stack) (l3) (c.in_ok-copies.ensures.whole) in
    let l5 = piece (label at_main ∷ []) (code stack) (l4) (c.in_ok-set_label.ensures.whole ∙ label_set a.tag at_main at_main refl (omega arith) _) in
    closes l5 (c.allocate_stack.ensures.whole ∙ size_put a.tag allocate_stack_code _ (stack_size H) _ c.size_of-stack.ensures.0 c.size_of-stack.ensures.1)
