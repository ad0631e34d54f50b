use Rattle.ast.proofs.Masked.{free_bits}
use Rattle.ast.proofs.is_free.Goals as goal

pub returns-else-r-ge32 : goal.returns-else-r-ge32
returns-else-r-ge32 c = free_bits c.args.mask c.args.r c.if-r-ge32.false
