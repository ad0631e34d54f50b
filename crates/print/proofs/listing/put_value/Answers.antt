use mathlib.Core.Path.{sym, ap}
use native.Mathlib.Omega.{arith}
use lib.ListN.{length}
use Rattle.print.proofs.Operands.{small_value, large_value}
use Rattle.print.proofs.Written.{behind, same}
use Rattle.print.proofs.listing.put_value.Goals as goal

pub decimal-requires : goal.decimal-requires
decimal-requires c = omega (arith, ap length (small_value c.args.v (omega arith)), c.requires)

pub returns-then-v-lt4294967296 : goal.returns-then-v-lt4294967296
returns-then-v-lt4294967296 c = same (sym (small_value c.args.v (omega arith))) c.decimal.ensures

pub byte-requires : goal.byte-requires
byte-requires c = omega (arith, ap length (large_value c.args.v (omega arith)), c.requires)

pub decimal-requires-2 : goal.decimal-requires-2
decimal-requires-2 c =
    omega (arith, ap length (large_value c.args.v (omega arith)), c.requires, c.byte.ensures.at, c.byte.ensures.as_long)

pub returns : goal.returns
returns c = same (sym (large_value c.args.v (omega arith))) (behind c.byte.ensures c.decimal-2.ensures)
