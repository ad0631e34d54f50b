use Rattle.fast.proofs.Fields.{shape_bit}
use Rattle.fast.proofs.is_numeric.Goals as goal

pub returns : goal.returns
returns c = shape_bit c.args.shape c.requires
