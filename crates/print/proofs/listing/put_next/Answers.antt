use Rattle.print.proofs.Written.{behind}
use Rattle.print.proofs.listing.put_next.Goals as goal

pub returns : goal.returns
returns c = behind c.byte.ensures c.put_value.ensures
