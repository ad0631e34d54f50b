use mathlib.Core.Path.{◌∙◌}
use mathlib.Core.List.{[], ◌∷◌}
use lib.IntN.{pos}
use Rattle.isa.specs.Instr.{R, I, S, ADD, ADDI, LD, FLD, FSD}
use Rattle.accesses.proofs.Collect.{answered, collected}
use Rattle.frames.proofs.copy_plan.Goals as goal
use Rattle.frames.proofs.copy_plan.Goals.{in-In, in-Out}

pub returns : goal.returns
returns c =
    let f = c.match-way.from in
    c.plan.ensures
    ∙ collected (c.ld.result ∷ c.add.result ∷ c.fld.result ∷ c.fsd.result ∷ c.addi.result ∷ c.addi-2.result ∷ [])
    (I LD 5 18 (pos 0) ∷ R ADD 5 5 19 ∷ I FLD 10 f.0 (pos 0) ∷ S FSD f.1 10 (pos 0) ∷ I ADDI 18 18 (pos 16) ∷ I ADDI 6 6 (pos 8) ∷ [])
    (answered _ _ c.ld.ensures, (answered _ _ c.add.ensures, (answered _ _ c.fld.ensures, (answered _ _ c.fsd.ensures, (answered _ _ c.addi.ensures, (answered _ _ c.addi-2.ensures, tt))))))
    ∙ elim c.match-way.branch [ in-In w ↦ rw (w.in-In.is, w.from-is) | in-Out w ↦ rw (w.in-Out.is, w.from-is) ]
