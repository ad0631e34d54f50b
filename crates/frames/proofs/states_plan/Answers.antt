use native.Mathlib.Omega.{arith}
use native.Mathlib.Numerals.{add-one}
use mathlib.Core.Path.{◌≡◌, sym, ap, ◌∙◌}
use mathlib.Core.List.{map}
use Prim.Native.Nat.{suc, ◌+◌, ◌-◌, ◌*◌}
use lib.IntN.{ℤ}
use Rattle.isa.specs.Instr.{S, FSD}
use Rattle.assembler.specs.Plan.{pushed, no_words}
use Rattle.assembler.specs.declared.Plan.{Plan}
use Rattle.accesses.specs.Plans.{answer_of, pushes_from}
use Rattle.accesses.proofs.Collect.{answered}
use Rattle.accesses.proofs.Numbers.{answered_at, back_small}
use Rattle.frame_code.specs.Items.{mv, states_from}
use Rattle.frames.proofs.Pushes.{next_pushed}
use Rattle.frames.proofs.states_plan.Goals as goal

pub loop-i-init : goal.loop-i-init
loop-i-init c =
    let n = c.args.states in
    let z : n - 0 ≡ n = omega arith in
    rw z (ap (λ (p : Plan). pushes_from p (map answer_of (states_from 0 n))) (sym (c.plan-p.ensures ∙ ap (pushed no_words) (answered _ (mv 21 2) c.mv.ensures))))

pub loop-i-preserved : goal.loop-i-preserved
loop-i-preserved c =
    let l = c.loop-i in
    let n = c.args.states in
    let k : n - l.i ≡ suc (n - suc l.i) = omega arith in
    let e = answered_at _ (λ (z : ℤ). S FSD 9 (10 + l.i) z) c.fsd.ensures (back_small (8 * l.i) (omega arith)) in
    rw add-one (l.invariant ∙ next_pushed l.p _ _ (ap (states_from l.i) k) (c.push-p.ensures ∙ ap (pushed l.p) e))
