use Rattle.orders.specs.Code.{scratched_code}
use Rattle.ast.specs.declared.Order.TheVariants.{Scratched}
use Rattle.orders.proofs.Whole.{order_short}
use Rattle.orders.proofs.Wrote.{roomy_fits}
use Rattle.orders.proofs.write.write_scratched.Goals as goal

pub put_scratched-requires : goal.put_scratched-requires
put_scratched-requires c =
    let a = c.args in
    roomy_fits a.buf.now a.len (scratched_code a.k a.d a.s a.t) c.is_roomy.ensures c.if-is_roomy.true (order_short (Scratched a.k a.d a.s a.t))
