use Prim.Native.Nat.{◌/◌, ◌≤◌}
use native.Mathlib.Omega.{arith}
use lib.ListN.{get_or-eq_default}
use Rattle.isa.specs.Decode.{cut}
use Rattle.decoder.proofs.Parts.{back_signed}
use Rattle.decoder.proofs.candidate.Goals as goal

pub returns-in_default : goal.returns-in_default
unfolding cut
returns-in_default c =
    let j = c.j_imm in
    let r : 10 ≤ c.args.operation / 16 = omega arith in
    (rw (get_or-eq_default _ _ r, ← j.ensures.0, back_signed j.result 1048576 j.ensures.1 (omega arith) _ c.signed-in_default.ensures), tt)
