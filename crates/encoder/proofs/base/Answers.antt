use Rattle.encoder.proofs.Table.{base_word}
use borrow.Author.Rules.{rules}
use Rattle.encoder.proofs.base.Goals as goal

pub returns : goal.returns
returns c = base_word c.args.row (search rules)
