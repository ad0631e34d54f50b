use mathlib.Core.Path.{◌≡◌}
use Prim.Native.Nat.{◌-◌}
use Rattle.unused.specs.Unused.{numbers_good}
use Rattle.unused.proofs.numbers_good.Given as goal

abbrev pub invariant-loop-e : goal.invariant-loop-e
invariant-loop-e l = numbers_good l.labels 0 2039 ≡ numbers_good l.labels l.e-index (2039 - l.e-index)
