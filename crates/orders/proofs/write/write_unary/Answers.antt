use Rattle.orders.specs.Code.{unary_code}
use Rattle.ast.specs.declared.Order.TheVariants.{Unary}
use Rattle.orders.proofs.Whole.{order_short}
use Rattle.orders.proofs.Wrote.{roomy_fits}
use Rattle.orders.proofs.write.write_unary.Goals as goal

pub put_unary-requires : goal.put_unary-requires
put_unary-requires c =
    let a = c.args in
    roomy_fits a.buf.now a.len (unary_code a.k a.d a.s) c.is_roomy.ensures c.if-is_roomy.true (order_short (Unary a.k a.d a.s))
