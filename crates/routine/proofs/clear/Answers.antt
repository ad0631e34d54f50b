use Rattle.std.proofs.Common.{◌≡◌, refl, length, take, arith}
use lib.Seq.{length-take-le}
use Rattle.routine.specs.Run.{cleared}
use Rattle.routine.proofs.clear.Goals as goal

pub returns : goal.returns
unfolding cleared
returns c =
    let n : length (take c.min-n.result c.args.buf.now) ≡ c.min-n.result = length-take-le c.min-n.result c.args.buf.now (omega (arith, c.min-n.ensures)) in
    rw (c.zero.ensures, n, c.min-n.ensures) refl
