use Rattle.orders.specs.Code.{binary_code}
use Rattle.ast.specs.declared.Order.TheVariants.{Binary}
use Rattle.orders.proofs.Whole.{order_short}
use Rattle.orders.proofs.Wrote.{roomy_fits}
use Rattle.orders.proofs.write.write_binary.Goals as goal

pub put_binary-requires : goal.put_binary-requires
put_binary-requires c =
    let a = c.args in
    roomy_fits a.buf.now a.len (binary_code a.k a.d a.a a.b) c.is_roomy.ensures c.if-is_roomy.true (order_short (Binary a.k a.d a.a a.b))
