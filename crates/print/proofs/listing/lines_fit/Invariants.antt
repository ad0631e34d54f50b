use mathlib.Core.Path.{◌≡◌}
use Prim.Native.Nat.{◌+◌, ◌*◌}
use lib.ListN.{length}
use Rattle.print.proofs.Listings.{lines_from}
use Rattle.print.proofs.listing.lines_fit.Given as goal

abbrev pub invariant-loop-j : goal.invariant-loop-j
invariant-loop-j l = length (lines_from l.constants l.code 0) + l.left ≡ l.room + length (lines_from l.constants l.code (4 * l.j))
