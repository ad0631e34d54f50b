use Rattle.text.proofs.Answers.{Wording}
use Rattle.text.proofs.read_word.Given as goal

abbrev pub invariant-loop-c : goal.invariant-loop-c
invariant-loop-c l = Wording l.s l.v l.c-index
