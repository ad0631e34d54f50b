use mathlib.Core.List.{[], ◌∷◌}
use lib.IntN.{pos}
use Rattle.isa.specs.Instr.{B}
use Rattle.orders.specs.Code.{skip}
use Rattle.orders.specs.Inner.Wrote.{Is}
use Rattle.orders.proofs.Wrote.{told, put_code}
use Rattle.orders.proofs.write.put_skip.Goals as goal
use Rattle.orders.proofs.write.put_skip.Goals.{then-e, else-e}

pub returns : goal.returns
returns c =
    let b : Is c.if-e.branch' (B (skip c.args.e) 5 0 (pos 12)) = elim c.if-e.branch [
      | then-e w ↦ rw (w.branch'-is, w.if-e.true) w.beq-branch.ensures
      | else-e w ↦ rw (w.branch'-is, w.if-e.false) w.bne-branch.ensures
    ] in
    put_code (told _ _ c.fmv_x_d.ensures ∷ told _ _ b ∷ []) _ _ _ _ c.put.ensures
