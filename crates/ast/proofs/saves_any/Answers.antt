use Rattle.std.proofs.Common.{◌/◌, ◌%◌}
use borrow.Author.Tests.{ne_eqb}
use Rattle.ast.proofs.Masked.{low_set, high_set}
use Rattle.ast.proofs.saves_any.Goals as goal

pub returns-then-mask-ne0 : goal.returns-then-mask-ne0
returns-then-mask-ne0 c = rw (ne_eqb (c.args.mask / 256 % 4) 0 c.if-mask-ne0.true) (low_set _ c.if-mask-ne0.true)

pub returns-else-mask-ne0 : goal.returns-else-mask-ne0
returns-else-mask-ne0 c = high_set _ c.if-mask-ne0.false
