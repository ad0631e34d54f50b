use mathlib.Core.Path.{◌≡◌, sym, ◌∙◌}
use native.Mathlib.Omega.{arith}
use Prim.Native.Nat.{◌/◌}
use lib.ListN.{length, length-map}
use Rattle.orders.specs.Inner.Parts.{instrs}
use Rattle.orders.specs.Wrote.{word}
use Rattle.orders.proofs.Whole.{order_short}
use Rattle.orders.proofs.write.needed.Goals as goal

pub put_instrs-requires : goal.put_instrs-requires
put_instrs-requires c =
    (c.requires, omega (arith, order_short c.args.o))

pub returns : goal.returns
returns c =
    let o = c.args.o in
    let n : c.put_instrs.result / 4 ≡ length (instrs o) = omega (arith, c.put_instrs.ensures.1, length-map (instrs o) word) in
    (omega (arith, n, order_short o), rw (sym c.is_roomy.ensures ∙ c.if-is_roomy.false) n)
