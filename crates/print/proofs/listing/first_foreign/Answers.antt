use mathlib.Core.Path.{sym, ◌∙◌}
use native.Mathlib.Omega.{arith}
use Rattle.print.proofs.Listings.{first_here, first_behind, first_end}
use Rattle.print.proofs.listing.first_foreign.Goals as goal

pub returns-then-is_foreign : goal.returns-then-is_foreign
returns-then-is_foreign c =
    let l = c.loop-j in
    let a = c.args in
    sym (l.invariant ∙ first_here a.constants a.code.now l.j _ (omega arith) c.word_at.ensures (sym c.is_foreign.ensures ∙ c.if-is_foreign.true))

pub loop-j-preserved : goal.loop-j-preserved
loop-j-preserved c =
    let l = c.loop-j in
    let a = c.args in
    l.invariant ∙ first_behind a.constants a.code.now l.j _ (omega arith) c.word_at.ensures (sym c.is_foreign.ensures ∙ c.if-is_foreign.false)

pub returns : goal.returns
returns c =
    let l = c.loop-j in
    let a = c.args in
    sym (l.invariant ∙ first_end a.constants a.code.now l.j (omega arith))
