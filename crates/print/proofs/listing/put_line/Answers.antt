use mathlib.Core.Path.{sym, ap}
use native.Mathlib.Omega.{arith}
use lib.ListN.{length}
use Rattle.encoder.specs.Instr.{instr_of}
use Rattle.print.proofs.Listings.{data_at, instr_at, no_line}
use Rattle.print.proofs.Written.{same, nothing}
use Rattle.print.proofs.listing.put_line.Goals as goal

pub put_data-requires : goal.put_data-requires
put_data-requires c =
    let a = c.args in
    omega (arith, ap length (data_at a.constants a.offset a.word (omega arith)), c.requires.1)

pub returns-then-offset-constants : goal.returns-then-offset-constants
returns-then-offset-constants c =
    let a = c.args in
    same (sym (data_at a.constants a.offset a.word (omega arith))) c.put_data.ensures

pub put_instr-requires : goal.put_instr-requires
put_instr-requires c =
    let a = c.args in
    let e = sym c.in-Some.ensures.0 in
    (c.requires.0, omega (arith, ap length (instr_at a.constants a.offset a.word (instr_of c.in-Some.i) (omega arith) e), c.requires.1))

pub returns-in-Some : goal.returns-in-Some
returns-in-Some c =
    let a = c.args in
    let e = sym c.in-Some.ensures.0 in
    same (sym (instr_at a.constants a.offset a.word (instr_of c.in-Some.i) (omega arith) e)) c.put_instr.ensures

pub returns-in-None : goal.returns-in-None
returns-in-None c =
    let a = c.args in
    let e = sym c.in-None.ensures.0 in
    same (sym (no_line a.constants a.offset a.word (omega arith) e)) (nothing _)
