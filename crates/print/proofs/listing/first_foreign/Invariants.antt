use mathlib.Core.Path.{◌≡◌}
use Prim.Native.Nat.{◌*◌}
use Rattle.print.proofs.Listings.{first_from}
use Rattle.print.proofs.listing.first_foreign.Given as goal

abbrev pub invariant-loop-j : goal.invariant-loop-j
invariant-loop-j l = first_from l.constants l.code 0 ≡ first_from l.constants l.code (4 * l.j)
