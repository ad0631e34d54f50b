use borrow.Author.Rules.{rules}
use native.Mathlib.Omega.{arith}
use mathlib.Core.Path.{refl, ◌∙◌}
use mathlib.Core.List.{[], ◌∷◌, ◌++◌}
use Rattle.assembler.specs.State.{before}
use Rattle.assembler.specs.Item.{jump, label}
use Rattle.assembler.proofs.Steps.{put_refused}
use Rattle.accesses.proofs.Collect.{answered, collected}
use Rattle.accesses.proofs.Placed.{plan_code}
use Rattle.frames.proofs.Parts.{opens, piece, not_refused, closes, fronted, label_set, plan_jump}
use Rattle.assembler.specs.declared.JumpKind.TheVariants.{Beq}
use Rattle.ast.specs.declared.Frame.TheVariants.{Indirect}
use Rattle.frame_code.specs.Items.{code, opening, at_main, at_self}
use Rattle.frame_code.proofs.Valid.{opening_valid}
use Rattle.frames.proofs.Wholes.{opening_few, arguments, entry_number}
use Rattle.frames.specs.Inner.Whole.{entry}
use Rattle.frames.proofs.enter.Goals as goal

pub returns-in_err-check_whole-clause-whole : goal.returns-in_err-check_whole-clause-whole
unfolding entry
returns-in_err-check_whole-clause-whole c =
    let a = c.args in
    let s = before a.asm.now in
    let past = jump Beq at_main 0 ∷ [] in
    put_refused a.tag 0 (entry) s _ _ _ (entry_number s) (search rules) c.in_err-check_whole.ensures.whole

pub returns-in_err-set_label-clause-whole : goal.returns-in_err-set_label-clause-whole
unfolding entry
returns-in_err-set_label-clause-whole c =
    let a = c.args in
    let s = before a.asm.now in
    let past = jump Beq at_main 0 ∷ [] in
    let l0 = opens a.tag (entry) s _ (entry_number s) c.in_ok-check_whole.ensures.whole in
    not_refused (label at_self ∷ []) (code (opening Indirect ++ arguments) ++ past) (l0) (c.in_err-set_label.ensures.whole ∙ label_set a.tag at_self at_self refl (omega arith) _)

pub returns-in_err-place-clause-whole : goal.returns-in_err-place-clause-whole
unfolding entry
returns-in_err-place-clause-whole c =
    let a = c.args in
    let s = before a.asm.now in
    let past = jump Beq at_main 0 ∷ [] in
    let l0 = opens a.tag (entry) s _ (entry_number s) c.in_ok-check_whole.ensures.whole in
    let l1 = piece (label at_self ∷ []) (code (opening Indirect ++ arguments) ++ past) (l0) (c.in_ok-set_label.ensures.whole ∙ label_set a.tag at_self at_self refl (omega arith) _) in
    not_refused (code (opening Indirect)) (code arguments ++ past) (fronted (opening Indirect) arguments past l1) (c.in_err-place.ensures.whole ∙ plan_code _ (opening Indirect) c.opening_plan.ensures (opening_few Indirect) (opening_valid Indirect) a.tag _)

pub returns-clause-whole : goal.returns-clause-whole
unfolding entry
returns-clause-whole c =
    let a = c.args in
    let s = before a.asm.now in
    let past = jump Beq at_main 0 ∷ [] in
    let l0 = opens a.tag (entry) s _ (entry_number s) c.in_ok-check_whole.ensures.whole in
    let l1 = piece (label at_self ∷ []) (code (opening Indirect ++ arguments) ++ past) (l0) (c.in_ok-set_label.ensures.whole ∙ label_set a.tag at_self at_self refl (omega arith) _) in
    let l2 = piece (code (opening Indirect)) (code arguments ++ past) (fronted (opening Indirect) arguments past l1) (c.in_ok-place.ensures.whole ∙ plan_code _ (opening Indirect) c.opening_plan.ensures (opening_few Indirect) (opening_valid Indirect) a.tag _) in
    closes l2 (c.place-2.ensures.whole ∙ plan_jump a.tag at_main at_main refl (omega arith) _ Beq _ arguments (c.plan-p.ensures ∙ collected (c.mv.result ∷ c.mv-2.result ∷ c.mv-3.result ∷ c.mv-4.result ∷ []) arguments (answered _ _ c.mv.ensures, (answered _ _ c.mv-2.ensures, (answered _ _ c.mv-3.ensures, (answered _ _ c.mv-4.ensures, tt))))) (omega arith) (omega arith))
