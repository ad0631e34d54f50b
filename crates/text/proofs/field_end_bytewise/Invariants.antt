use mathlib.Core.Path.{◌≡◌}
use Rattle.text.specs.Readers.{end_from}
use Rattle.text.proofs.field_end_bytewise.Given as goal

abbrev pub invariant-loop-i : goal.invariant-loop-i
invariant-loop-i l = end_from l.s l.a ≡ end_from l.s l.i
