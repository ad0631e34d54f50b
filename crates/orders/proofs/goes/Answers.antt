use Rattle.orders.proofs.Whole.{operand_some, operand_none, items_none, goes_behind}
use Rattle.orders.proofs.goes.Goals as goal

pub returns-then-is_some : goal.returns-then-is_some
returns-then-is_some c =
    items_none c.args.o (operand_some _ _ _ c.fault.ensures c.is_some.ensures c.if-is_some.true)

pub returns-else-is_some : goal.returns-else-is_some
returns-else-is_some c =
    let good = operand_none _ _ _ c.fault.ensures c.is_some.ensures c.if-is_some.false in
    rw c.tail.ensures (goes_behind c.args.o good)
