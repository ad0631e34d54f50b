use mathlib.Core.Path.{◌≡◌}
use Prim.Native.Nat.{◌+◌, ◌*◌}
use lib.ListN.{length}
use Rattle.print.proofs.Lines.{rest_of}
use Rattle.print.proofs.words_fit.Given as goal

abbrev pub invariant-loop-j : goal.invariant-loop-j
invariant-loop-j l = length (rest_of l.code 0) + l.left ≡ l.room + length (rest_of l.code (4 * l.j))
