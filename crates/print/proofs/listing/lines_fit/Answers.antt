use mathlib.Core.Path.{sym, ap}
use native.Mathlib.Omega.{arith}
use borrow.Author.Tests.{le-leb, lt-leb}
use lib.ListN.{length}
use Rattle.print.proofs.Listings.{lines_from, lines_turn, lines_end}
use Rattle.print.proofs.listing.lines_fit.Goals as goal

pub returns-then-left-k : goal.returns-then-left-k
returns-then-left-k c =
    let l = c.loop-j in
    let a = c.args in
    let h = lines_turn a.constants a.code.now l.j _ (omega arith) c.word_at.ensures in
    sym (lt-leb (length (lines_from a.constants a.code.now 0)) a.room (omega (arith, h, l.invariant, c.line_length-k.ensures.0)))

pub loop-j-preserved : goal.loop-j-preserved
loop-j-preserved c =
    let l = c.loop-j in
    let a = c.args in
    omega (arith, lines_turn a.constants a.code.now l.j _ (omega arith) c.word_at.ensures, l.invariant, c.line_length-k.ensures.0)

pub returns : goal.returns
returns c =
    let l = c.loop-j in
    let a = c.args in
    let h = ap length (lines_end a.constants a.code.now l.j (omega arith)) in
    sym (le-leb (length (lines_from a.constants a.code.now 0)) a.room (omega (arith, h, l.invariant)))
