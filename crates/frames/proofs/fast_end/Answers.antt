use native.Mathlib.Omega.{arith}
use mathlib.Core.Path.{ap, ◌∙◌}
use mathlib.Core.List.{◌∷◌, map}
use Prim.Native.Nat.{◌*◌}
use lib.IntN.{ℤ, pos}
use Rattle.isa.specs.Instr.{I, FLD}
use Rattle.assembler.specs.Plan.{no_words, pushed}
use Rattle.assembler.specs.declared.Plan.{Plan}
use Rattle.ast.specs.declared.Frame.TheVariants.{Fast}
use Rattle.accesses.specs.Plans.{answer_of, pushes_from}
use Rattle.frame_code.specs.Items.{closing}
use Rattle.frame_code.proofs.Valid.{closing_valid}
use Rattle.accesses.proofs.Numbers.{answered_at, back_small}
use Rattle.accesses.proofs.Placed.{plan_code}
use Rattle.frames.proofs.Wholes.{closing_few}
use Rattle.frames.proofs.fast_end.Goals as goal

pub returns-clause-whole : goal.returns-clause-whole
returns-clause-whole c =
    let n = 8 * c.args.head.last in
    let e = c.plan-p.ensures ∙ ap (pushed no_words) (answered_at _ (λ (z : ℤ). I FLD 10 9 z) c.fld.ensures (back_small n (omega (arith, c.requires)))) in
    let p = c.closing_plan.ensures ∙ ap (λ (p : Plan). pushes_from p (map answer_of (closing Fast))) e in
    c.place.ensures.whole ∙ plan_code _ (I FLD 10 9 (pos n) ∷ closing Fast) p (omega (arith, closing_few Fast)) (omega (arith, c.requires), closing_valid Fast) 0 _
