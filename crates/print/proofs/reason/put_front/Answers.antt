use Rattle.print.specs.Reason.{reason_front}
use Rattle.print.proofs.Written.{behind}
use Rattle.print.proofs.reason.put_front.Goals as goal

pub returns : goal.returns
unfolding reason_front
returns c =
    behind c.bytes.ensures (behind c.decimal.ensures (behind c.bytes-2.ensures (behind c.decimal-2.ensures c.bytes-3.ensures)))
