use lib.ListN.{drop}
use Rattle.print.specs.Inner.Listing.{values_text}
use Rattle.print.proofs.Written.{Left}
use Rattle.print.proofs.listing.put_values.Given as goal

abbrev pub invariant-loop-v : goal.invariant-loop-v
invariant-loop-v l = Left (values_text l.v-items) (values_text (drop l.v-index l.v-items)) l.initial.w l.w
