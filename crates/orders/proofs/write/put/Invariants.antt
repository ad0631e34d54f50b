use mathlib.Core.Path.{◌≡◌}
use mathlib.Core.List.{map}
use lib.ListN.{take}
use Rattle.accesses.specs.Plans.{word_of}
use Rattle.assembler.specs.Bytes.{written}
use Rattle.orders.proofs.write.put.Given as goal

abbrev pub invariant-loop-i : goal.invariant-loop-i
invariant-loop-i l = l.buf ≡ written l.initial.buf l.len (map word_of (take l.i l.es))
