use mathlib.Core.Path.{◌≡◌}
use lib.ListN.{take}
use Rattle.assembler.specs.Bytes.{written}
use Rattle.assembler.proofs.put_words.Given as goal

abbrev pub invariant-loop-i : goal.invariant-loop-i
invariant-loop-i l = l.buf ≡ written l.initial.buf l.at (take l.i l.ws)
