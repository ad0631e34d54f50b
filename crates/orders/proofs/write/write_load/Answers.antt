use Rattle.accesses.specs.Code.{load_float_code}
use Rattle.orders.specs.Code.{base}
use Rattle.orders.specs.Wrote.{offset}
use Prim.Native.Nat.{◌%◌, ◌^◌}
use Rattle.ast.specs.declared.Order.TheVariants.{Load}
use Rattle.orders.proofs.Whole.{order_short}
use Rattle.orders.proofs.Wrote.{roomy_fits}
use Rattle.orders.proofs.write.write_load.Goals as goal

pub put_access-requires : goal.put_access-requires
put_access-requires c =
    let a = c.args in
    rw (c.base_of.ensures, c.offset_of.ensures) (roomy_fits a.buf.now a.len (load_float_code a.d (base a.p) (offset a.i)) c.is_roomy.ensures c.if-is_roomy.true (order_short (Load a.d a.p (a.i % 2 ^ 29))))
