use Rattle.print.specs.Listing.{data_line}
use Rattle.print.proofs.Written.{behind}
use Rattle.print.proofs.listing.put_data.Goals as goal

pub returns : goal.returns
unfolding data_line
returns c = behind c.decimal.ensures (behind c.bytes.ensures (behind c.hex.ensures c.byte.ensures))
