use borrow.Author.Rules.{rules}
use native.Mathlib.Omega.{arith}
use mathlib.Core.Path.{◌∙◌}
use mathlib.Core.List.{[], ◌∷◌, ◌++◌, map}
use lib.IntN.{pos}
use Rattle.assembler.specs.State.{before}
use Rattle.assembler.specs.Item.{label}
use Rattle.assembler.proofs.Steps.{put_refused}
use Rattle.accesses.proofs.Collect.{answered, collected}
use Rattle.accesses.proofs.Placed.{plan_code}
use Rattle.frames.proofs.Parts.{opens, piece, not_refused, closes}
use Rattle.isa.specs.Instr.{I, ADDI}
use Rattle.ast.specs.Mask.{saved}
use Rattle.frame_code.specs.Items.{code, reload, reloads, at_success, at_epilogue}
use Rattle.frame_code.proofs.Listed.{reload_list_valid}
use Rattle.frames.proofs.Pushes.{used_put}
use Rattle.frames.proofs.Sizes.{reload_number}
use Rattle.frames.proofs.load_used_registers.Goals as goal

pub returns-in_err-check_whole-clause-whole : goal.returns-in_err-check_whole-clause-whole
unfolding reloads
returns-in_err-check_whole-clause-whole c =
    let a = c.args in
    let s = before a.asm.now in
    let is = map reload (saved a.mask) in
    let zero = I ADDI 10 0 (pos 0) ∷ [] in
    put_refused 0 0 (reloads a.mask) s _ _ _ (reload_number a.mask _ s c.used_count-n.ensures.0) (search rules) c.in_err-check_whole.ensures.whole

pub returns-in_err-set_label-clause-whole : goal.returns-in_err-set_label-clause-whole
unfolding reloads
returns-in_err-set_label-clause-whole c =
    let a = c.args in
    let s = before a.asm.now in
    let is = map reload (saved a.mask) in
    let zero = I ADDI 10 0 (pos 0) ∷ [] in
    let l0 = opens 0 (reloads a.mask) s _ (reload_number a.mask _ s c.used_count-n.ensures.0) c.in_ok-check_whole.ensures.whole in
    not_refused (label at_success ∷ []) (code zero ++ (label at_epilogue ∷ code is)) (l0) (c.in_err-set_label.ensures.whole)

pub returns-in_err-place-clause-whole : goal.returns-in_err-place-clause-whole
unfolding reloads
returns-in_err-place-clause-whole c =
    let a = c.args in
    let s = before a.asm.now in
    let is = map reload (saved a.mask) in
    let zero = I ADDI 10 0 (pos 0) ∷ [] in
    let l0 = opens 0 (reloads a.mask) s _ (reload_number a.mask _ s c.used_count-n.ensures.0) c.in_ok-check_whole.ensures.whole in
    let l1 = piece (label at_success ∷ []) (code zero ++ (label at_epilogue ∷ code is)) (l0) (c.in_ok-set_label.ensures.whole) in
    not_refused (code zero) (label at_epilogue ∷ code is) (l1) (c.in_err-place.ensures.whole ∙ plan_code _ zero (c.plan.ensures ∙ collected (c.addi.result ∷ []) zero (answered _ _ c.addi.ensures, tt)) (omega arith) (omega arith) 0 _)

pub returns-in_err-set_label-2-clause-whole : goal.returns-in_err-set_label-2-clause-whole
unfolding reloads
returns-in_err-set_label-2-clause-whole c =
    let a = c.args in
    let s = before a.asm.now in
    let is = map reload (saved a.mask) in
    let zero = I ADDI 10 0 (pos 0) ∷ [] in
    let l0 = opens 0 (reloads a.mask) s _ (reload_number a.mask _ s c.used_count-n.ensures.0) c.in_ok-check_whole.ensures.whole in
    let l1 = piece (label at_success ∷ []) (code zero ++ (label at_epilogue ∷ code is)) (l0) (c.in_ok-set_label.ensures.whole) in
    let l2 = piece (code zero) (label at_epilogue ∷ code is) (l1) (c.in_ok-place.ensures.whole ∙ plan_code _ zero (c.plan.ensures ∙ collected (c.addi.result ∷ []) zero (answered _ _ c.addi.ensures, tt)) (omega arith) (omega arith) 0 _) in
    not_refused (label at_epilogue ∷ []) (code is) (l2) (c.in_err-set_label-2.ensures.whole)

pub returns-clause-whole : goal.returns-clause-whole
unfolding reloads
returns-clause-whole c =
    let a = c.args in
    let s = before a.asm.now in
    let is = map reload (saved a.mask) in
    let zero = I ADDI 10 0 (pos 0) ∷ [] in
    let l0 = opens 0 (reloads a.mask) s _ (reload_number a.mask _ s c.used_count-n.ensures.0) c.in_ok-check_whole.ensures.whole in
    let l1 = piece (label at_success ∷ []) (code zero ++ (label at_epilogue ∷ code is)) (l0) (c.in_ok-set_label.ensures.whole) in
    let l2 = piece (code zero) (label at_epilogue ∷ code is) (l1) (c.in_ok-place.ensures.whole ∙ plan_code _ zero (c.plan.ensures ∙ collected (c.addi.result ∷ []) zero (answered _ _ c.addi.ensures, tt)) (omega arith) (omega arith) 0 _) in
    let l3 = piece (label at_epilogue ∷ []) (code is) (l2) (c.in_ok-set_label-2.ensures.whole) in
    closes l3 (c.place-2.ensures.whole ∙ used_put reload a.mask _ _ c.used_plan.ensures (reload_list_valid a.mask))
