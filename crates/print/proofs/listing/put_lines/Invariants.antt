use Prim.Native.Nat.{◌*◌}
use Rattle.print.specs.Listing.{marked}
use Rattle.print.proofs.Listings.{views_from}
use Rattle.print.proofs.Written.{Left}
use Rattle.print.proofs.listing.put_lines.Given as goal

abbrev pub invariant-loop-j : goal.invariant-loop-j
invariant-loop-j l =
    Left (views_from (marked l.marks) l.constants l.code 0) (views_from (marked l.marks) l.constants l.code (4 * l.j)) l.initial.w l.w
