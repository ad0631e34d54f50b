use Rattle.form.proofs.Names.{Spelled}
use Rattle.form.proofs.name.name_word.Given as goal

abbrev pub invariant-loop-i : goal.invariant-loop-i
invariant-loop-i l = Spelled l.s l.i l.w
