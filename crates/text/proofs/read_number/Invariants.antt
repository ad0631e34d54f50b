use Rattle.text.proofs.Once.{Scanned}
use Rattle.text.proofs.read_number.Given as goal

abbrev pub invariant-loop-i : goal.invariant-loop-i
invariant-loop-i l = Scanned l.s l.v l.i
