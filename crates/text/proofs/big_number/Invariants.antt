use Rattle.text.proofs.Once.{Bigger}
use Rattle.text.proofs.big_number.Given as goal

abbrev pub invariant-loop-i : goal.invariant-loop-i
invariant-loop-i l = Bigger l.s l.a l.i
