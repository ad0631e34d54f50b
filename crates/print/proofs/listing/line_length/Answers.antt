use mathlib.Core.Path.{sym, ap, ◌∙◌}
use native.Mathlib.Omega.{arith}
use lib.ListN.{length}
use Rattle.encoder.specs.Instr.{instr_of}
use Rattle.print.proofs.Counts.{decimal_short}
use Rattle.print.proofs.Listings.{length_data_line, data_at, instr_at, no_line}
use Rattle.print.proofs.listing.line_length.Goals as goal

pub overflow_add-result : goal.overflow_add-result
overflow_add-result c = omega (arith, c.decimal_length.ensures.0, decimal_short 19 c.args.offset (omega arith))

pub returns-then-offset-constants : goal.returns-then-offset-constants
returns-then-offset-constants c =
    let a = c.args in
    let d = c.decimal_length.ensures.0 in
    let l = length_data_line a.offset a.word in
    let e = ap length (data_at a.constants a.offset a.word (omega arith)) in
    (omega (arith, d, l, e), omega (arith, d, decimal_short 19 a.offset (omega arith)))

pub returns-in-Some : goal.returns-in-Some
returns-in-Some c =
    let a = c.args in
    let e = sym c.in-Some.ensures.0 in
    let i = c.instr_length.ensures in
    (i.0 ∙ sym (ap length (instr_at a.constants a.offset a.word (instr_of c.in-Some.i) (omega arith) e)), i.1)

pub returns-in-None : goal.returns-in-None
returns-in-None c =
    let a = c.args in
    let e = sym c.in-None.ensures.0 in
    (sym (ap length (no_line a.constants a.offset a.word (omega arith) e)), omega arith)
