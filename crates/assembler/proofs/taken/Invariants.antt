use mathlib.Core.Path.{◌≡◌}
use lib.ListN.{length}
use Rattle.assembler.specs.Put.{twice}
use Rattle.assembler.proofs.taken.Given as goal

abbrev pub invariant-loop-l : goal.invariant-loop-l
invariant-loop-l l = twice l.labels l.sets ≡ twice l.labels l.rest

abbrev pub decreases-loop-l : goal.decreases-loop-l
decreases-loop-l l = length l.rest
