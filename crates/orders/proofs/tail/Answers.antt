use native.Mathlib.Omega.{arith}
use mathlib.Core.Path.{refl}
use Rattle.ast.specs.declared.Order.TheVariants.{LoadConst}
use Rattle.orders.proofs.Whole.{order_small}
use Rattle.orders.proofs.tail.Goals as goal

pub overflow_add-result : goal.overflow_add-result
overflow_add-result c =
    let k = c.in-LoadConst in
    record { fits = omega (arith, order_small (LoadConst k.d k.k) (rw k.is at c.requires) refl) }
