use lib.IntN.{ℤ}
use mir.Syntax.{w32}
use mir.ValLaws.{to_z-of_z}
use Rattle.isa.specs.Instr.{I, S, LD, FLD, FSD}
use Rattle.accesses.proofs.Numbers.{answered_at}
use Rattle.accesses.proofs.access_at.Goals as goal

pub returns-in-LoadFloat : goal.returns-in-LoadFloat
returns-in-LoadFloat c =
    let a = c.args in
    rw c.in-LoadFloat.is (answered_at _ (λ (z : ℤ). I FLD a.r a.base z) c.fld.ensures (to_z-of_z w32 a.z c.ranges.z))

pub returns-in-SaveFloat : goal.returns-in-SaveFloat
returns-in-SaveFloat c =
    let a = c.args in
    rw c.in-SaveFloat.is (answered_at _ (λ (z : ℤ). S FSD a.base a.r z) c.fsd.ensures (to_z-of_z w32 a.z c.ranges.z))

pub returns-in-LoadInt : goal.returns-in-LoadInt
returns-in-LoadInt c =
    let a = c.args in
    rw c.in-LoadInt.is (answered_at _ (λ (z : ℤ). I LD a.r a.base z) c.ld.ensures (to_z-of_z w32 a.z c.ranges.z))
