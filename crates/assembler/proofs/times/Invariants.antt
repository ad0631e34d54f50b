use mathlib.Core.Path.{◌≡◌}
use Prim.Native.Nat.{◌+◌, ◌≤◌}
use lib.ListN.{drop}
use Rattle.assembler.specs.Put.{times}
use Rattle.assembler.proofs.times.Given as goal

abbrev pub invariant-loop-g : goal.invariant-loop-g
invariant-loop-g l = (times l.l l.goes ≡ l.n + times l.l (drop l.g-index l.goes)) × (l.n ≤ l.g-index)
