use mathlib.Core.Path.{ap}
use native.Mathlib.Omega.{arith}
use Rattle.std.proofs.Common.{rules}
use lib.ListN.{length}
use Rattle.print.proofs.Named.{length_short, name_part}
use Rattle.print.proofs.Written.{same}
use Rattle.print.proofs.listing.put_name.Goals as goal

pub overflow_add-e : goal.overflow_add-e
overflow_add-e c = omega (arith, c.name_length.ensures, length_short c.args.row)

pub slice_bounds-bytes-end : goal.slice_bounds-bytes-end
slice_bounds-bytes-end c =
    let h = length_short c.args.row in
    let k = c.name_length.ensures in
    let l = ap length c.requires.0 in
    search rules

pub bytes-requires : goal.bytes-requires
bytes-requires c =
    omega (arith, ap length (name_part c.args.table.now c.args.row c.name_length.result c.requires.0 c.name_length.ensures), c.requires.2)

pub returns : goal.returns
returns c = same (name_part c.args.table.now c.args.row c.name_length.result c.requires.0 c.name_length.ensures) c.bytes.ensures
