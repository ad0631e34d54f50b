use borrow.Author.Rules.{rules}
use native.Mathlib.Omega.{arith}
use mathlib.Core.Path.{refl, ap, ◌∙◌}
use mathlib.Core.Bool.{true}
use mathlib.Core.List.{[], ◌∷◌, ◌++◌, map}
use Rattle.assembler.specs.State.{before}
use Rattle.assembler.specs.Item.{jump, label}
use Rattle.assembler.proofs.Steps.{put_refused}
use Rattle.accesses.proofs.Placed.{plan_code}
use Rattle.frames.proofs.Parts.{opens, piece, not_refused, closes, label_set}
use Rattle.assembler.specs.declared.JumpKind.TheVariants.{Beq}
use Rattle.ast.specs.declared.Frame.TheVariants.{Indirect}
use Rattle.assembler.specs.declared.Plan.{Plan}
use Rattle.accesses.specs.Plans.{answer_of, pushes_from}
use Rattle.frame_code.specs.Items.{code, closing, epilogue_indirect, at_done}
use Rattle.frame_code.specs.Inner.Copies.{copies}
use Rattle.frame_code.proofs.Valid.{closing_valid}
use Rattle.frames.proofs.Wholes.{closing_few, end_number}
use Rattle.frames.proofs.indirect_end.Goals as goal

pub returns-in_err-check_whole-clause-whole : goal.returns-in_err-check_whole-clause-whole
returns-in_err-check_whole-clause-whole c =
    let a = c.args in
    let s = before a.asm.now in
    let H = a.head in
    let cs = copies true H.states H.obs in
    let end = closing Indirect in
    put_refused a.tag 0 (epilogue_indirect H) s _ _ _ (end_number H s _ _ _ c.end_sets-sets.ensures.0 c.end_sets-sets.ensures.1 c.end_goes.ensures c.copy_words-w.ensures.0) (search rules) c.in_err-check_whole.ensures.whole

pub returns-in_err-jump-clause-whole : goal.returns-in_err-jump-clause-whole
returns-in_err-jump-clause-whole c =
    let a = c.args in
    let s = before a.asm.now in
    let H = a.head in
    let cs = copies true H.states H.obs in
    let end = closing Indirect in
    let l0 = opens a.tag (epilogue_indirect H) s _ (end_number H s _ _ _ c.end_sets-sets.ensures.0 c.end_sets-sets.ensures.1 c.end_goes.ensures c.copy_words-w.ensures.0) c.in_ok-check_whole.ensures.whole in
    not_refused (jump Beq at_done 0 ∷ []) (cs ++ (label at_done ∷ code end)) (l0) (c.in_err-jump.ensures.whole)

pub returns-in_err-copies-clause-whole : goal.returns-in_err-copies-clause-whole
returns-in_err-copies-clause-whole c =
    let a = c.args in
    let s = before a.asm.now in
    let H = a.head in
    let cs = copies true H.states H.obs in
    let end = closing Indirect in
    let l0 = opens a.tag (epilogue_indirect H) s _ (end_number H s _ _ _ c.end_sets-sets.ensures.0 c.end_sets-sets.ensures.1 c.end_goes.ensures c.copy_words-w.ensures.0) c.in_ok-check_whole.ensures.whole in
    let l1 = piece (jump Beq at_done 0 ∷ []) (cs ++ (label at_done ∷ code end)) (l0) (c.in_ok-jump.ensures.whole) in
    not_refused (cs) (label at_done ∷ code end) (l1) (c.in_err-copies.ensures.whole)

pub returns-in_err-set_label-clause-whole : goal.returns-in_err-set_label-clause-whole
returns-in_err-set_label-clause-whole c =
    let a = c.args in
    let s = before a.asm.now in
    let H = a.head in
    let cs = copies true H.states H.obs in
    let end = closing Indirect in
    let l0 = opens a.tag (epilogue_indirect H) s _ (end_number H s _ _ _ c.end_sets-sets.ensures.0 c.end_sets-sets.ensures.1 c.end_goes.ensures c.copy_words-w.ensures.0) c.in_ok-check_whole.ensures.whole in
    let l1 = piece (jump Beq at_done 0 ∷ []) (cs ++ (label at_done ∷ code end)) (l0) (c.in_ok-jump.ensures.whole) in
    let l2 = piece (cs) (label at_done ∷ code end) (l1) (c.in_ok-copies.ensures.whole) in
    not_refused (label at_done ∷ []) (code end) (l2) (c.in_err-set_label.ensures.whole ∙ label_set a.tag at_done at_done refl (omega arith) _)

pub returns-clause-whole : goal.returns-clause-whole
returns-clause-whole c =
    let a = c.args in
    let s = before a.asm.now in
    let H = a.head in
    let cs = copies true H.states H.obs in
    let end = closing Indirect in
    let l0 = opens a.tag (epilogue_indirect H) s _ (end_number H s _ _ _ c.end_sets-sets.ensures.0 c.end_sets-sets.ensures.1 c.end_goes.ensures c.copy_words-w.ensures.0) c.in_ok-check_whole.ensures.whole in
    let l1 = piece (jump Beq at_done 0 ∷ []) (cs ++ (label at_done ∷ code end)) (l0) (c.in_ok-jump.ensures.whole) in
    let l2 = piece (cs) (label at_done ∷ code end) (l1) (c.in_ok-copies.ensures.whole) in
    let l3 = piece (label at_done ∷ []) (code end) (l2) (c.in_ok-set_label.ensures.whole ∙ label_set a.tag at_done at_done refl (omega arith) _) in
    closes l3 (c.place.ensures.whole ∙ plan_code _ end (c.closing_plan-p.ensures ∙ ap (λ (p : Plan). pushes_from p (map answer_of end)) c.new.ensures) (omega (arith, closing_few Indirect)) (closing_valid Indirect) a.tag _)
