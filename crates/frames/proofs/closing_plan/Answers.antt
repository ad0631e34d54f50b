use native.Mathlib.Omega.{arith}
use native.Mathlib.Numerals.{add-one}
use mathlib.Core.Path.{sym, ap, ◌∙◌}
use mathlib.Core.List.{List, [], ◌∷◌, ◌++◌, map}
use Prim.Native.Nat.{ℕ, ◌*◌, ◌≤◌}
use lib.IntN.{ℤ, pos}
use lib.ListN.{length, get_or}
use Rattle.isa.specs.Instr.{Instr, R, I, XOR, ADDI, JALR, LD}
use Rattle.assembler.specs.Plan.{pushed}
use Rattle.accesses.specs.Code.{add_stack_code}
use Rattle.accesses.specs.Plans.{answer_of, pushes_from}
use Rattle.accesses.proofs.Collect.{answered}
use Rattle.accesses.proofs.Numbers.{answered_at, back_small}
use Rattle.reading.specs.Size.{save_size}
use Rattle.frame_code.specs.Items.{mv, kept, loads_from}
use lib.Seq.{drop-cons}
use Rattle.std.proofs.lemmas.List.{drop_all}
use Rattle.frames.proofs.Pushes.{next_pushed}
use Rattle.frames.proofs.Wholes.{added, size_back, kept_few}
use Rattle.frames.proofs.closing_plan.Goals as goal

abbrev After : ℕ → List Instr
After n = add_stack_code n ++ (R XOR 10 10 10 ∷ I JALR 0 1 (pos 0) ∷ [])

pub loop-i-init : goal.loop-i-init
loop-i-init c =
    let F = c.args.frame in
    rw (c.kept-r-items.ensures, c.push-q.ensures) (ap (λ e. pushes_from (pushed c.args.p e) (map answer_of (loads_from 0 (kept F) ++ After (save_size F)))) (sym (answered _ (mv 2 8) c.mv.ensures)))

pub loop-i-preserved : goal.loop-i-preserved
loop-i-preserved c =
    let l = c.loop-i in
    let few : length c.kept-r-items.result.now ≤ 7 = rw c.kept-r-items.ensures (kept_few c.args.frame) in
    let e = answered_at _ (λ (z : ℤ). I LD (get_or c.kept-r-items.result.now l.i 0) 2 z) c.ld.ensures (back_small (8 * l.i) (omega arith)) in
    rw add-one
    (l.invariant ∙ next_pushed l.q _ _ (ap (λ (rs : List ℕ). loads_from l.i rs ++ After (save_size c.args.frame)) (drop-cons _ l.i 0 c.loop-i-test.true)) (c.push-q-in-loop-i.ensures ∙ ap (pushed l.q) e))

pub returns : goal.returns
returns c =
    let l = c.loop-i in
    let F = c.args.frame in
    let i1 = answered_at _ (λ (z : ℤ). I ADDI 2 2 z) c.addi.ensures (size_back F _ c.save_size.ensures).0 in
    sym (l.invariant
    ∙ ap (λ (rs : List ℕ). pushes_from l.q (map answer_of (loads_from l.i rs ++ After (save_size F)))) (drop_all l.i _ c.loop-i-test.false)
    ∙ ap (λ (is : List Instr). pushes_from l.q (map answer_of (is ++ (R XOR 10 10 10 ∷ I JALR 0 1 (pos 0) ∷ [])))) (added F)
    ∙ rw (c.push.ensures, c.push-q-3.ensures, c.push-q-2.ensures, i1, answered _ _ c.xor.ensures, answered _ _ c.ret.ensures))
