use Rattle.std.proofs.Common.{◌≡◌}
use Rattle.std.proofs.Math.ListN.{take}
use Rattle.test_rows.specs.Bytes.{all_of}
use Rattle.test_rows.proofs.all.Given as goal

abbrev pub invariant-loop-c : goal.invariant-loop-c
invariant-loop-c l = l.same ≡ all_of l.b (take l.c-index l.s)
