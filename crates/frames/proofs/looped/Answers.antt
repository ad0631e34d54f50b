use borrow.Author.Rules.{rules}
use native.Mathlib.Omega.{arith}
use mathlib.Core.Path.{ap, ◌∙◌}
use mathlib.Core.List.{[], ◌∷◌, ◌++◌}
use lib.IntN.{ℤ, pos}
use lib.ListN.{length-append}
use Rattle.assembler.specs.State.{before}
use Rattle.assembler.specs.Item.{jump, label}
use Rattle.assembler.proofs.Steps.{put_refused}
use Rattle.accesses.proofs.Collect.{answered, pushed_last}
use Rattle.accesses.proofs.Numbers.{back_small}
use Rattle.accesses.proofs.Placed.{plan_code}
use Rattle.frames.proofs.Parts.{opens, piece, not_refused, closes, fronted, label_set, plan_jump}
use Rattle.assembler.specs.Plan.{pushed}
use Rattle.assembler.specs.declared.Plan.{Plan}
use Rattle.assembler.specs.declared.JumpKind.TheVariants.{Bne}
use Rattle.accesses.specs.Code.{li_code}
use Rattle.accesses.specs.Plans.{plan_of}
use Rattle.accesses.proofs.Lengths.{li_length}
use Rattle.accesses.proofs.LoadImmediate.{li_valid}
use Rattle.accesses.proofs.Then.{valids_join}
use Rattle.frame_code.specs.Items.{code, count_down}
use Rattle.frame_code.specs.Inner.Copies.{copy_first, copy_each, copy_label}
use Rattle.frame_code.proofs.Valid.{first_valid, each_valid}
use Rattle.frames.specs.Inner.Whole.{is_out, looped}
use Rattle.frames.proofs.Sizes.{six, first_few, looped_number}
use Rattle.frames.proofs.looped.Goals as goal

pub returns-in_err-check_whole-clause-whole : goal.returns-in_err-check_whole-clause-whole
unfolding looped
returns-in_err-check_whole-clause-whole c =
    let a = c.args in
    let s = before a.asm.now in
    let out = is_out a.way in
    let part = copy_first out a.states in
    let li = li_code 7 (pos a.n) in
    let l = copy_label out in
    let each = copy_each out ++ (count_down ∷ []) in
    let inner = code each ++ (jump Bne l 0 ∷ []) in
    let rest = label l ∷ inner in
    put_refused a.tag 0 (looped out a.states a.n) s _ _ _ (looped_number out a.states a.n _ _ _ s c.label_of-l.ensures.0 c.first_words.ensures.0 (c.li_words.ensures.0 7)) (search rules) c.in_err-check_whole.ensures.whole

pub returns-in_err-place-clause-whole : goal.returns-in_err-place-clause-whole
unfolding looped
returns-in_err-place-clause-whole c =
    let a = c.args in
    let s = before a.asm.now in
    let out = is_out a.way in
    let part = copy_first out a.states in
    let li = li_code 7 (pos a.n) in
    let l = copy_label out in
    let each = copy_each out ++ (count_down ∷ []) in
    let inner = code each ++ (jump Bne l 0 ∷ []) in
    let rest = label l ∷ inner in
    let l0 = opens a.tag (looped out a.states a.n) s _ (looped_number out a.states a.n _ _ _ s c.label_of-l.ensures.0 c.first_words.ensures.0 (c.li_words.ensures.0 7)) c.in_ok-check_whole.ensures.whole in
    not_refused (code part) (code li ++ rest) (fronted part li rest l0) (c.in_err-place.ensures.whole ∙ plan_code _ part c.first_plan.ensures (first_few out a.states) (first_valid out a.states) a.tag _)

pub returns-in_err-place-2-clause-whole : goal.returns-in_err-place-2-clause-whole
unfolding looped
returns-in_err-place-2-clause-whole c =
    let a = c.args in
    let s = before a.asm.now in
    let out = is_out a.way in
    let part = copy_first out a.states in
    let li = li_code 7 (pos a.n) in
    let l = copy_label out in
    let each = copy_each out ++ (count_down ∷ []) in
    let inner = code each ++ (jump Bne l 0 ∷ []) in
    let rest = label l ∷ inner in
    let l0 = opens a.tag (looped out a.states a.n) s _ (looped_number out a.states a.n _ _ _ s c.label_of-l.ensures.0 c.first_words.ensures.0 (c.li_words.ensures.0 7)) c.in_ok-check_whole.ensures.whole in
    let l1 = piece (code part) (code li ++ rest) (fronted part li rest l0) (c.in_ok-place.ensures.whole ∙ plan_code _ part c.first_plan.ensures (first_few out a.states) (first_valid out a.states) a.tag _) in
    not_refused (code li) (rest) (l1) (c.in_err-place-2.ensures.whole ∙ plan_code _ li (c.li_plan.ensures ∙ ap (λ (k : ℤ). plan_of (li_code 7 k)) (back_small a.n (omega (arith, c.requires)))) (omega (arith, li_length 7 (pos a.n))) (li_valid 7 (pos a.n) (omega arith)) a.tag _)

pub returns-in_err-set_label-clause-whole : goal.returns-in_err-set_label-clause-whole
unfolding looped
returns-in_err-set_label-clause-whole c =
    let a = c.args in
    let s = before a.asm.now in
    let out = is_out a.way in
    let part = copy_first out a.states in
    let li = li_code 7 (pos a.n) in
    let l = copy_label out in
    let each = copy_each out ++ (count_down ∷ []) in
    let inner = code each ++ (jump Bne l 0 ∷ []) in
    let rest = label l ∷ inner in
    let l0 = opens a.tag (looped out a.states a.n) s _ (looped_number out a.states a.n _ _ _ s c.label_of-l.ensures.0 c.first_words.ensures.0 (c.li_words.ensures.0 7)) c.in_ok-check_whole.ensures.whole in
    let l1 = piece (code part) (code li ++ rest) (fronted part li rest l0) (c.in_ok-place.ensures.whole ∙ plan_code _ part c.first_plan.ensures (first_few out a.states) (first_valid out a.states) a.tag _) in
    let l2 = piece (code li) (rest) (l1) (c.in_ok-place-2.ensures.whole ∙ plan_code _ li (c.li_plan.ensures ∙ ap (λ (k : ℤ). plan_of (li_code 7 k)) (back_small a.n (omega (arith, c.requires)))) (omega (arith, li_length 7 (pos a.n))) (li_valid 7 (pos a.n) (omega arith)) a.tag _) in
    not_refused (label l ∷ []) (inner) (l2) (c.in_err-set_label.ensures.whole ∙ label_set a.tag _ l c.label_of-l.ensures.0 c.label_of-l.ensures.1 _)

pub returns-clause-whole : goal.returns-clause-whole
unfolding looped
returns-clause-whole c =
    let a = c.args in
    let s = before a.asm.now in
    let out = is_out a.way in
    let part = copy_first out a.states in
    let li = li_code 7 (pos a.n) in
    let l = copy_label out in
    let each = copy_each out ++ (count_down ∷ []) in
    let inner = code each ++ (jump Bne l 0 ∷ []) in
    let rest = label l ∷ inner in
    let l0 = opens a.tag (looped out a.states a.n) s _ (looped_number out a.states a.n _ _ _ s c.label_of-l.ensures.0 c.first_words.ensures.0 (c.li_words.ensures.0 7)) c.in_ok-check_whole.ensures.whole in
    let l1 = piece (code part) (code li ++ rest) (fronted part li rest l0) (c.in_ok-place.ensures.whole ∙ plan_code _ part c.first_plan.ensures (first_few out a.states) (first_valid out a.states) a.tag _) in
    let l2 = piece (code li) (rest) (l1) (c.in_ok-place-2.ensures.whole ∙ plan_code _ li (c.li_plan.ensures ∙ ap (λ (k : ℤ). plan_of (li_code 7 k)) (back_small a.n (omega (arith, c.requires)))) (omega (arith, li_length 7 (pos a.n))) (li_valid 7 (pos a.n) (omega arith)) a.tag _) in
    let l3 = piece (label l ∷ []) (inner) (l2) (c.in_ok-set_label.ensures.whole ∙ label_set a.tag _ l c.label_of-l.ensures.0 c.label_of-l.ensures.1 _) in
    closes l3 (c.place-3.ensures.whole ∙ plan_jump a.tag _ l c.label_of-l.ensures.0 c.label_of-l.ensures.1 _ Bne _ each (c.push-p.ensures ∙ ap (λ (k : Plan). pushed k c.addi.result) c.copy_plan.ensures ∙ pushed_last (copy_each out) count_down (answered _ _ c.addi.ensures)) (omega (arith, length-append (copy_each out) (count_down ∷ []), six out)) (valids_join (copy_each out) (count_down ∷ []) (each_valid out) (omega arith)))
