use mathlib.Core.Path.{ap}
use native.Mathlib.Omega.{arith}
use lib.ListN.{length}
use Rattle.encoder.specs.Instr.{instr_of}
use Rattle.print.specs.Listing.{instr_line}
use Rattle.print.proofs.Listings.{length_instr_line}
use Rattle.print.proofs.Named.{named}
use Rattle.print.proofs.Written.{behind, same}
use Rattle.print.proofs.listing.put_instr.Goals as goal

pub decimal-requires : goal.decimal-requires
decimal-requires c = omega (arith, length_instr_line c.args.offset (instr_of c.args.i), c.requires.1)

pub byte-requires : goal.byte-requires
byte-requires c =
    omega (arith, length_instr_line c.args.offset (instr_of c.args.i), c.requires.1, c.decimal.ensures.at, c.decimal.ensures.as_long)

pub put_name-requires : goal.put_name-requires
put_name-requires c =
    let n = named c.row.result (instr_of c.args.i) c.row.ensures.0 c.row.ensures.1 in
    (c.requires.0, c.row.ensures.0, omega (arith, length_instr_line c.args.offset (instr_of c.args.i), c.requires.1, ap length n, c.decimal.ensures.at, c.decimal.ensures.as_long, c.byte.ensures.at, c.byte.ensures.as_long))

pub put_values-requires : goal.put_values-requires
put_values-requires c =
    let n = named c.row.result (instr_of c.args.i) c.row.ensures.0 c.row.ensures.1 in
    let o = c.operands_of.ensures in
    (o.0, omega (arith, length_instr_line c.args.offset (instr_of c.args.i), c.requires.1, ap length n, ap length o.1, c.decimal.ensures.at, c.decimal.ensures.as_long, c.byte.ensures.at, c.byte.ensures.as_long, c.put_name.ensures.at, c.put_name.ensures.as_long))

pub byte-requires-2 : goal.byte-requires-2
byte-requires-2 c =
    let n = named c.row.result (instr_of c.args.i) c.row.ensures.0 c.row.ensures.1 in
    let o = c.operands_of.ensures in
    omega (arith, length_instr_line c.args.offset (instr_of c.args.i), c.requires.1, ap length n, ap length o.1, c.decimal.ensures.at, c.decimal.ensures.as_long, c.byte.ensures.at, c.byte.ensures.as_long, c.put_name.ensures.at, c.put_name.ensures.as_long, c.put_values.ensures.at, c.put_values.ensures.as_long)

pub returns : goal.returns
unfolding instr_line
returns c =
    let n = named c.row.result (instr_of c.args.i) c.row.ensures.0 c.row.ensures.1 in
    behind c.decimal.ensures (behind c.byte.ensures (behind (same n c.put_name.ensures) (behind (same c.operands_of.ensures.1 c.put_values.ensures) c.byte-2.ensures)))
