use Rattle.print.proofs.Written.{behind}
use Rattle.stale.specs.Deck.{label_text}
use Rattle.stale.proofs.put_label.Goals as goal

pub returns : goal.returns
unfolding label_text
returns c = behind c.decimal.ensures (behind c.byte.ensures (behind c.decimal-2.ensures c.byte-2.ensures))
