use Rattle.orders.specs.Code.{ifelse_code}
use Rattle.orders.specs.Wrote.{offset}
use Prim.Native.Nat.{◌%◌, ◌^◌}
use Rattle.ast.specs.declared.Order.TheVariants.{Ifelse}
use Rattle.orders.proofs.Whole.{order_short}
use Rattle.orders.proofs.Wrote.{roomy_fits}
use Rattle.orders.proofs.write.write_ifelse.Goals as goal

pub put_ifelse-requires : goal.put_ifelse-requires
put_ifelse-requires c =
    let a = c.args in
    rw c.offset_of.ensures (roomy_fits a.buf.now a.len (ifelse_code a.d a.a a.b (offset a.i)) c.is_roomy.ensures c.if-is_roomy.true (order_short (Ifelse a.d a.a a.b (a.i % 2 ^ 29))))
