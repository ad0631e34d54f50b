use mathlib.Core.Path.{ap}
use native.Mathlib.Omega.{arith}
use lib.ListN.{length}
use Rattle.print.proofs.Counts.{as_digits}
use Rattle.print.proofs.Written.{same}
use Rattle.print.proofs.writer.Writer.decimal.Goals as goal

pub digits-requires : goal.digits-requires
digits-requires c =
    let e = as_digits _ c.args.n c.decimal_length.ensures.0 in
    (omega arith, omega arith, omega (arith, c.requires, ap length e))

pub returns : goal.returns
returns c = same (as_digits _ c.args.n c.decimal_length.ensures.0) c.digits.ensures
