use mathlib.Core.Path.{sym, ap}
use native.Mathlib.Omega.{arith}
use borrow.Author.Tests.{le-leb, lt-leb}
use lib.ListN.{length}
use Rattle.print.proofs.Lines.{rest_of, turn_length, turns_end}
use Rattle.print.proofs.words_fit.Goals as goal

pub returns-then-left-k : goal.returns-then-left-k
returns-then-left-k c =
    let a = c.args in
    let l = c.loop-j in
    sym (lt-leb (length (rest_of a.code.now 0)) a.room (omega (arith, l.invariant, turn_length a.code.now l.j (omega arith), c.decimal_length-k.ensures.0)))

pub loop-j-preserved : goal.loop-j-preserved
loop-j-preserved c =
    let a = c.args in
    let l = c.loop-j in
    omega (arith, l.invariant, turn_length a.code.now l.j (omega arith), c.decimal_length-k.ensures.0)

pub returns : goal.returns
returns c =
    let a = c.args in
    let l = c.loop-j in
    sym (le-leb (length (rest_of a.code.now 0)) a.room (omega (arith, l.invariant, ap length (turns_end a.code.now l.j (omega arith)))))
