use Rattle.print.specs.Text.{refusal_line}
use Rattle.print.proofs.Written.{behind}
use Rattle.print.proofs.put_refusal_line.Goals as goal

pub returns : goal.returns
unfolding refusal_line
returns c =
    behind c.bytes.ensures (behind c.decimal.ensures (behind c.byte.ensures (behind c.decimal-2.ensures c.byte-2.ensures)))
