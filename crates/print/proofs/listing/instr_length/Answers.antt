use mathlib.Core.Path.{sym, ap, ◌∙◌}
use native.Mathlib.Omega.{arith}
use lib.ListN.{length}
use Rattle.encoder.specs.Instr.{instr_of}
use Rattle.print.proofs.Counts.{decimal_short}
use Rattle.print.proofs.Named.{named, length_name, length_short}
use Rattle.print.proofs.Listings.{length_instr_line}
use Rattle.print.proofs.listing.instr_length.Goals as goal

pub overflow_add-result : goal.overflow_add-result
overflow_add-result c =
    omega (arith, c.decimal_length.ensures.0, decimal_short 19 c.args.offset (omega arith), c.name_length.ensures, length_short c.row.result)

pub overflow_add-result-2 : goal.overflow_add-result-2
overflow_add-result-2 c =
    omega (arith, c.decimal_length.ensures.0, decimal_short 19 c.args.offset (omega arith), c.name_length.ensures, length_short c.row.result, c.values_length.ensures.1)

pub overflow_add-result-3 : goal.overflow_add-result-3
overflow_add-result-3 c =
    omega (arith, c.decimal_length.ensures.0, decimal_short 19 c.args.offset (omega arith), c.name_length.ensures, length_short c.row.result, c.values_length.ensures.1)

pub returns : goal.returns
returns c =
    let a = c.args in
    let r = c.row in
    let i = instr_of a.i in
    let l = length_instr_line a.offset i in
    let m = sym (ap length (named r.result i r.ensures.0 r.ensures.1)) ∙ length_name r.result r.ensures.0 in
    let v = c.values_length.ensures.0 ∙ ap length c.operands_of.ensures.1 in
    let s = decimal_short 19 a.offset (omega arith) in
    let t = length_short r.result in
    (omega (arith, c.decimal_length.ensures.0, c.name_length.ensures, l, m, v), omega (arith, c.decimal_length.ensures.0, s, c.name_length.ensures, t, c.values_length.ensures.1))
