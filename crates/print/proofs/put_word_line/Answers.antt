use Rattle.print.specs.Text.{word_line}
use Rattle.print.proofs.Written.{behind}
use Rattle.print.proofs.put_word_line.Goals as goal

pub returns : goal.returns
unfolding word_line
returns c = behind c.decimal.ensures (behind c.byte.ensures (behind c.hex.ensures c.byte-2.ensures))
