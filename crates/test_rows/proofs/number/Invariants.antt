use Rattle.std.proofs.Common.{◌≡◌, drop}
use Rattle.test_rows.specs.Hex.{number_from}
use Rattle.test_rows.proofs.number.Given as goal

abbrev pub invariant-loop-b : goal.invariant-loop-b
invariant-loop-b l = number_from 0 l.s ≡ number_from l.v (drop l.b-index l.s)
