use Rattle.print.specs.Listing.{hidden_line}
use Rattle.print.proofs.Written.{behind}
use Rattle.print.proofs.listing.put_hidden.Goals as goal

pub returns : goal.returns
unfolding hidden_line
returns c = behind c.decimal.ensures c.bytes.ensures
