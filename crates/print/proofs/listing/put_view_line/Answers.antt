use mathlib.Core.Path.{sym, ◌∙◌}
use native.Mathlib.Omega.{arith}
use Rattle.print.specs.Listing.{marked}
use Rattle.print.proofs.Listings.{view_hidden, view_shown, hidden_length}
use Rattle.print.proofs.Written.{same}
use Rattle.print.proofs.listing.put_view_line.Goals as goal

pub put_hidden-requires : goal.put_hidden-requires
put_hidden-requires c =
    let a = c.args in
    omega (arith, hidden_length (marked a.marks.now) a.constants a.offset a.word (sym c.is_hidden.ensures ∙ c.if-is_hidden.true), c.requires.1)

pub returns-then-is_hidden : goal.returns-then-is_hidden
returns-then-is_hidden c =
    let a = c.args in
    same (sym (view_hidden (marked a.marks.now) a.constants a.offset a.word (sym c.is_hidden.ensures ∙ c.if-is_hidden.true))) c.put_hidden.ensures

pub returns : goal.returns
returns c =
    let a = c.args in
    same (sym (view_shown (marked a.marks.now) a.constants a.offset a.word (sym c.is_hidden.ensures ∙ c.if-is_hidden.false))) c.put_line.ensures
