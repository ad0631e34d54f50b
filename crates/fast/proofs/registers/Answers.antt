use Rattle.fast.proofs.Fields.{shape_registers}
use Rattle.fast.proofs.registers.Goals as goal

pub returns : goal.returns
returns c = shape_registers c.args.shape c.requires
