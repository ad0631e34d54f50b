use borrow.Author.Rules.{rules}
use native.Mathlib.Omega.{arith}
use mathlib.Core.Path.{ap, ◌∙◌}
use mathlib.Core.List.{[], ◌∷◌, ◌++◌}
use Prim.Native.Nat.{ℕ}
use lib.ListN.{length}
use Rattle.assembler.specs.State.{before}
use Rattle.assembler.proofs.Steps.{put_refused}
use Rattle.accesses.proofs.Collect.{answered, collected}
use Rattle.accesses.proofs.Placed.{plan_code}
use Rattle.frames.proofs.Parts.{opens, piece, not_refused, closes, coded, size_put}
use Rattle.ast.specs.declared.Frame.TheVariants.{Fast}
use Rattle.accesses.specs.Code.{sub_stack_code}
use Rattle.reading.specs.Size.{frame_size, stack_size}
use Rattle.frame_code.specs.Items.{code, mv, opening, states_from, prologue_fast}
use Rattle.frame_code.proofs.Valid.{opening_valid, states_valid}
use Rattle.frames.proofs.Wholes.{opening_few, states_few, fast_number}
use Rattle.frames.proofs.fast_start.Goals as goal

pub returns-in_err-check_whole-clause-whole : goal.returns-in_err-check_whole-clause-whole
returns-in_err-check_whole-clause-whole c =
    let a = c.args in
    let s = before a.asm.now in
    let H = a.head in
    let sub_length = λ (k : ℕ). length (sub_stack_code k) in
    let mem = sub_stack_code (frame_size H) in
    let stack = sub_stack_code (stack_size H) in
    let states = mv 21 2 ∷ states_from 0 H.states in
    put_refused 0 0 (prologue_fast H) s _ _ _ (fast_number H _ _ s (c.sub_words.ensures.0 ∙ ap sub_length c.size_of-mem.ensures.0) (c.sub_words-2.ensures.0 ∙ ap sub_length c.size_of-stack.ensures.0)) (search rules) c.in_err-check_whole.ensures.whole

pub returns-in_err-place-clause-whole : goal.returns-in_err-place-clause-whole
returns-in_err-place-clause-whole c =
    let a = c.args in
    let s = before a.asm.now in
    let H = a.head in
    let sub_length = λ (k : ℕ). length (sub_stack_code k) in
    let mem = sub_stack_code (frame_size H) in
    let stack = sub_stack_code (stack_size H) in
    let states = mv 21 2 ∷ states_from 0 H.states in
    let l0 = opens 0 (prologue_fast H) s _ (fast_number H _ _ s (c.sub_words.ensures.0 ∙ ap sub_length c.size_of-mem.ensures.0) (c.sub_words-2.ensures.0 ∙ ap sub_length c.size_of-stack.ensures.0)) c.in_ok-check_whole.ensures.whole in
    not_refused (code (opening Fast)) (code (mem ++ (mv 9 2 ∷ (stack ++ states)))) (coded (opening Fast) (mem ++ (mv 9 2 ∷ (stack ++ states))) l0) (c.in_err-place.ensures.whole ∙ plan_code _ (opening Fast) c.opening_plan.ensures (opening_few Fast) (opening_valid Fast) 0 _)

pub returns-in_err-sub_stack-clause-whole : goal.returns-in_err-sub_stack-clause-whole
returns-in_err-sub_stack-clause-whole c =
    let a = c.args in
    let s = before a.asm.now in
    let H = a.head in
    let sub_length = λ (k : ℕ). length (sub_stack_code k) in
    let mem = sub_stack_code (frame_size H) in
    let stack = sub_stack_code (stack_size H) in
    let states = mv 21 2 ∷ states_from 0 H.states in
    let l0 = opens 0 (prologue_fast H) s _ (fast_number H _ _ s (c.sub_words.ensures.0 ∙ ap sub_length c.size_of-mem.ensures.0) (c.sub_words-2.ensures.0 ∙ ap sub_length c.size_of-stack.ensures.0)) c.in_ok-check_whole.ensures.whole in
    let l1 = piece (code (opening Fast)) (code (mem ++ (mv 9 2 ∷ (stack ++ states)))) (coded (opening Fast) (mem ++ (mv 9 2 ∷ (stack ++ states))) l0) (c.in_ok-place.ensures.whole ∙ plan_code _ (opening Fast) c.opening_plan.ensures (opening_few Fast) (opening_valid Fast) 0 _) in
    not_refused (code mem) (code (mv 9 2 ∷ (stack ++ states))) (coded mem (mv 9 2 ∷ (stack ++ states)) l1) (c.in_err-sub_stack.ensures.whole ∙ size_put 0 sub_stack_code _ (frame_size H) _ c.size_of-mem.ensures.0 c.size_of-mem.ensures.1)

pub returns-in_err-place-2-clause-whole : goal.returns-in_err-place-2-clause-whole
returns-in_err-place-2-clause-whole c =
    let a = c.args in
    let s = before a.asm.now in
    let H = a.head in
    let sub_length = λ (k : ℕ). length (sub_stack_code k) in
    let mem = sub_stack_code (frame_size H) in
    let stack = sub_stack_code (stack_size H) in
    let states = mv 21 2 ∷ states_from 0 H.states in
    let l0 = opens 0 (prologue_fast H) s _ (fast_number H _ _ s (c.sub_words.ensures.0 ∙ ap sub_length c.size_of-mem.ensures.0) (c.sub_words-2.ensures.0 ∙ ap sub_length c.size_of-stack.ensures.0)) c.in_ok-check_whole.ensures.whole in
    let l1 = piece (code (opening Fast)) (code (mem ++ (mv 9 2 ∷ (stack ++ states)))) (coded (opening Fast) (mem ++ (mv 9 2 ∷ (stack ++ states))) l0) (c.in_ok-place.ensures.whole ∙ plan_code _ (opening Fast) c.opening_plan.ensures (opening_few Fast) (opening_valid Fast) 0 _) in
    let l2 = piece (code mem) (code (mv 9 2 ∷ (stack ++ states))) (coded mem (mv 9 2 ∷ (stack ++ states)) l1) (c.in_ok-sub_stack.ensures.whole ∙ size_put 0 sub_stack_code _ (frame_size H) _ c.size_of-mem.ensures.0 c.size_of-mem.ensures.1) in
    not_refused (code (mv 9 2 ∷ [])) (code (stack ++ states)) (l2) (c.in_err-place-2.ensures.whole ∙ plan_code _ (mv 9 2 ∷ []) (c.plan.ensures ∙ collected (c.mv.result ∷ []) (mv 9 2 ∷ []) (answered _ _ c.mv.ensures, tt)) (omega arith) (omega arith) 0 _)

pub returns-in_err-sub_stack-2-clause-whole : goal.returns-in_err-sub_stack-2-clause-whole
returns-in_err-sub_stack-2-clause-whole c =
    let a = c.args in
    let s = before a.asm.now in
    let H = a.head in
    let sub_length = λ (k : ℕ). length (sub_stack_code k) in
    let mem = sub_stack_code (frame_size H) in
    let stack = sub_stack_code (stack_size H) in
    let states = mv 21 2 ∷ states_from 0 H.states in
    let l0 = opens 0 (prologue_fast H) s _ (fast_number H _ _ s (c.sub_words.ensures.0 ∙ ap sub_length c.size_of-mem.ensures.0) (c.sub_words-2.ensures.0 ∙ ap sub_length c.size_of-stack.ensures.0)) c.in_ok-check_whole.ensures.whole in
    let l1 = piece (code (opening Fast)) (code (mem ++ (mv 9 2 ∷ (stack ++ states)))) (coded (opening Fast) (mem ++ (mv 9 2 ∷ (stack ++ states))) l0) (c.in_ok-place.ensures.whole ∙ plan_code _ (opening Fast) c.opening_plan.ensures (opening_few Fast) (opening_valid Fast) 0 _) in
    let l2 = piece (code mem) (code (mv 9 2 ∷ (stack ++ states))) (coded mem (mv 9 2 ∷ (stack ++ states)) l1) (c.in_ok-sub_stack.ensures.whole ∙ size_put 0 sub_stack_code _ (frame_size H) _ c.size_of-mem.ensures.0 c.size_of-mem.ensures.1) in
    let l3 = piece (code (mv 9 2 ∷ [])) (code (stack ++ states)) (l2) (c.in_ok-place-2.ensures.whole ∙ plan_code _ (mv 9 2 ∷ []) (c.plan.ensures ∙ collected (c.mv.result ∷ []) (mv 9 2 ∷ []) (answered _ _ c.mv.ensures, tt)) (omega arith) (omega arith) 0 _) in
    not_refused (code stack) (code states) (coded stack states l3) (c.in_err-sub_stack-2.ensures.whole ∙ size_put 0 sub_stack_code _ (stack_size H) _ c.size_of-stack.ensures.0 c.size_of-stack.ensures.1)

pub returns-clause-whole : goal.returns-clause-whole
returns-clause-whole c =
    let a = c.args in
    let s = before a.asm.now in
    let H = a.head in
    let sub_length = λ (k : ℕ). length (sub_stack_code k) in
    let mem = sub_stack_code (frame_size H) in
    let stack = sub_stack_code (stack_size H) in
    let states = mv 21 2 ∷ states_from 0 H.states in
    let l0 = opens 0 (prologue_fast H) s _ (fast_number H _ _ s (c.sub_words.ensures.0 ∙ ap sub_length c.size_of-mem.ensures.0) (c.sub_words-2.ensures.0 ∙ ap sub_length c.size_of-stack.ensures.0)) c.in_ok-check_whole.ensures.whole in
    let l1 = piece (code (opening Fast)) (code (mem ++ (mv 9 2 ∷ (stack ++ states)))) (coded (opening Fast) (mem ++ (mv 9 2 ∷ (stack ++ states))) l0) (c.in_ok-place.ensures.whole ∙ plan_code _ (opening Fast) c.opening_plan.ensures (opening_few Fast) (opening_valid Fast) 0 _) in
    let l2 = piece (code mem) (code (mv 9 2 ∷ (stack ++ states))) (coded mem (mv 9 2 ∷ (stack ++ states)) l1) (c.in_ok-sub_stack.ensures.whole ∙ size_put 0 sub_stack_code _ (frame_size H) _ c.size_of-mem.ensures.0 c.size_of-mem.ensures.1) in
    let l3 = piece (code (mv 9 2 ∷ [])) (code (stack ++ states)) (l2) (c.in_ok-place-2.ensures.whole ∙ plan_code _ (mv 9 2 ∷ []) (c.plan.ensures ∙ collected (c.mv.result ∷ []) (mv 9 2 ∷ []) (answered _ _ c.mv.ensures, tt)) (omega arith) (omega arith) 0 _) in
    let l4 = piece (code stack) (code states) (coded stack states l3) (c.in_ok-sub_stack-2.ensures.whole ∙ size_put 0 sub_stack_code _ (stack_size H) _ c.size_of-stack.ensures.0 c.size_of-stack.ensures.1) in
    closes l4 (c.place-3.ensures.whole ∙ plan_code _ states c.states_plan.ensures (states_few H.states c.requires.2) (omega arith, states_valid 0 H.states (omega (arith, c.requires.2))) 0 _)
