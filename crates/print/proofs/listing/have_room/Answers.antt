use mathlib.Core.Path.{sym}
use native.Mathlib.Omega.{arith}
use borrow.Author.Tests.{le-leb}
use lib.ListN.{length}
use Rattle.print.proofs.Listings.{lines_from}
use Rattle.print.proofs.Brief.{listing_short}
use Rattle.print.proofs.listing.have_room.Goals as goal

pub returns : goal.returns
returns c =
    let a = c.args in
    sym (le-leb (length (lines_from a.constants a.code.now 0)) a.room (omega (arith, listing_short a.constants a.code.now (omega arith))))
