-- The reader stands where the first line from a on ends.
use Rattle.lines.proofs.First.{ends_there}
use Rattle.lines.proofs.line_end.Goals as goal

pub returns : goal.returns
returns c = ends_there c.args.file.now c.args.a _ (cc)
