use Rattle.form.proofs.Shapes.{Filled}
use Rattle.form.proofs.read_numbers.Given as goal

abbrev pub invariant-loop-i : goal.invariant-loop-i
invariant-loop-i g l = Filled l.s l.a g.row.N l.all l.i l.at
