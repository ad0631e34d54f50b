use mathlib.Core.Path.{◌≡◌}
use Prim.Native.Nat.{◌+◌, ◌*◌, ◌≤◌}
use lib.ListN.{length, drop}
use Rattle.print.specs.Inner.Listing.{values_text}
use Rattle.print.proofs.listing.values_length.Given as goal

abbrev pub invariant-loop-v : goal.invariant-loop-v
invariant-loop-v l = (l.k + length (values_text (drop l.v-index l.v-items)) ≡ length (values_text l.v-items)) × (l.k ≤ 22 * l.v-index)
