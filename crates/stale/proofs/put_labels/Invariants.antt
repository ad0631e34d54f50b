use Rattle.print.proofs.Written.{Left}
use Rattle.stale.specs.Inner.Text.{line_in}
use Rattle.stale.proofs.Texts.{rest}
use Rattle.stale.proofs.put_labels.Given as goal

abbrev pub invariant-loop-label : goal.invariant-loop-label
invariant-loop-label l = Left (rest (line_in l.found) l.list 0) (rest (line_in l.found) l.list l.label-index) l.initial.w l.w
