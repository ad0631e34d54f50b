use Rattle.text.proofs.Once.{whole_not}
use Rattle.text.proofs.whole_number.Goals as goal

pub returns-then-stop-s : goal.returns-then-stop-s
returns-then-stop-s c = let f = c.read_number-numeral in whole_not _ f.result f.ensures c.if-stop-s.true
