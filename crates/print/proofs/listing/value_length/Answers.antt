use mathlib.Core.Path.{sym, ap, ◌∙◌}
use native.Mathlib.Omega.{arith}
use lib.ListN.{length}
use Rattle.print.proofs.Operands.{small_value, large_value, value_short}
use Rattle.print.proofs.listing.value_length.Goals as goal

pub returns-then-v-lt4294967296 : goal.returns-then-v-lt4294967296
returns-then-v-lt4294967296 c =
    let v = c.args.v in
    let e = c.decimal_length.ensures.0 ∙ sym (ap length (small_value v (omega arith))) in
    (e, omega (arith, e, value_short v (omega arith)))

pub returns : goal.returns
returns c =
    let v = c.args.v in
    let d = ap length (large_value v (omega arith)) in
    let e = c.decimal_length-2.ensures.0 in
    (omega (arith, d, e), omega (arith, d, e, value_short v (omega arith)))
