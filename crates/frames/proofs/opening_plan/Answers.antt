use native.Mathlib.Omega.{arith}
use native.Mathlib.Numerals.{add-one}
use mathlib.Core.Path.{sym, ap, ◌∙◌}
use mathlib.Core.List.{List, [], ◌∷◌, ◌++◌, map}
use Prim.Native.Nat.{ℕ, ◌*◌, ◌≤◌}
use lib.IntN.{ℤ}
use lib.ListN.{length, get_or}
use Rattle.isa.specs.Instr.{I, S, ADDI, SD}
use Rattle.assembler.specs.Plan.{pushed, no_words}
use Rattle.assembler.specs.declared.Plan.{Plan}
use Rattle.accesses.specs.Plans.{answer_of, pushes_from}
use Rattle.accesses.proofs.Collect.{answered}
use Rattle.accesses.proofs.Numbers.{answered_at, back_small}
use Rattle.frame_code.specs.Items.{mv, kept, stores_from}
use lib.Seq.{drop-cons}
use Rattle.std.proofs.lemmas.List.{drop_all}
use Rattle.frames.proofs.Pushes.{next_pushed}
use Rattle.frames.proofs.Wholes.{opening_starts, size_back, kept_few}
use Rattle.frames.proofs.opening_plan.Goals as goal

abbrev Rest : Plan → List ℕ → Plan
Rest p rs = pushes_from p (map answer_of (stores_from 0 rs ++ (mv 8 2 ∷ [])))

pub loop-i-init : goal.loop-i-init
loop-i-init c =
    let F = c.args.frame in
    let e = answered_at _ (λ (z : ℤ). I ADDI 2 2 z) c.addi.ensures (size_back F _ c.save_size-size.ensures).1 in
    opening_starts F ∙ sym (rw c.kept-r-items.ensures (ap (λ (p : Plan). Rest p (kept F)) (c.plan-p.ensures ∙ ap (pushed no_words) e)))

pub loop-i-preserved : goal.loop-i-preserved
loop-i-preserved c =
    let l = c.loop-i in
    let few : length c.kept-r-items.result.now ≤ 7 = rw c.kept-r-items.ensures (kept_few c.args.frame) in
    let e = answered_at _ (λ (z : ℤ). S SD 2 (get_or c.kept-r-items.result.now l.i 0) z) c.sd.ensures (back_small (8 * l.i) (omega arith)) in
    rw add-one
    (l.invariant ∙ next_pushed l.p _ _ (ap (λ (rs : List ℕ). stores_from l.i rs ++ (mv 8 2 ∷ [])) (drop-cons _ l.i 0 c.loop-i-test.true)) (c.push-p.ensures ∙ ap (pushed l.p) e))

pub returns : goal.returns
returns c =
    let l = c.loop-i in
    let e = drop_all l.i _ c.loop-i-test.false in
    c.push.ensures ∙ ap (pushed l.p) (answered _ (mv 8 2) c.mv.ensures) ∙ sym (l.invariant ∙ ap (λ (rs : List ℕ). pushes_from l.p (map answer_of (stores_from l.i rs ++ (mv 8 2 ∷ [])))) e)
