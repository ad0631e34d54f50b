use native.Mathlib.Omega.{arith}
use Rattle.print.proofs.Operands.{plain}
use Rattle.print.proofs.listing.numbers.Goals as goal

pub returns : goal.returns
returns c = ((c.requires, omega arith), plain c.args.n _ (omega arith, (omega arith, (omega arith, (omega arith, (omega arith, tt))))))
