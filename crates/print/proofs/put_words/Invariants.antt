use Prim.Native.Nat.{◌*◌}
use Rattle.print.proofs.Lines.{rest_of}
use Rattle.print.proofs.Written.{Left}
use Rattle.print.proofs.put_words.Given as goal

abbrev pub invariant-loop-j : goal.invariant-loop-j
invariant-loop-j l = Left (rest_of l.code 0) (rest_of l.code (4 * l.j)) l.initial.w l.w
