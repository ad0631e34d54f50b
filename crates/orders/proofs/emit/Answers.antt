use native.Mathlib.Omega.{arith}
use mathlib.Core.Path.{◌∙◌}
use Rattle.assembler.specs.State.{before}
use Rattle.orders.proofs.Whole.{operand_some, operand_none, items_none, order_refused, order_label, order_alone, tail_right, tail_fits}
use Rattle.orders.proofs.emit.Goals as goal

pub returns-then-is_some-clause-whole : goal.returns-then-is_some-clause-whole
returns-then-is_some-clause-whole c =
    let a = c.args in
    let bad = operand_some _ _ _ c.fault-f.ensures c.is_some.ensures c.if-is_some.true in
    order_refused a.o a.tag (before a.asm.now) _ _ _ _ _ c.fault-f.ensures bad (items_none a.o bad) c.check_tail.ensures.whole

pub place-requires-in-Unary : goal.place-requires-in-Unary
place-requires-in-Unary c =
    let o = c.args.o in
    let good = operand_none _ _ _ c.fault-f.ensures c.is_some.ensures c.if-is_some.false in
    rw c.tail-in-Unary.ensures (good, tail_right o (λ l e. grind (arith, c.in-Unary.is, e)), tail_fits o good)

pub returns-in-SetLabel-clause-whole : goal.returns-in-SetLabel-clause-whole
returns-in-SetLabel-clause-whole c =
    let a = c.args in
    let good = operand_none _ _ _ c.fault-f.ensures c.is_some.ensures c.if-is_some.false in
    rw c.in-SetLabel.is (c.set_label.ensures.whole ∙ order_label c.in-SetLabel.l a.tag (before a.asm.now) (rw c.in-SetLabel.is at good))

pub returns-in-LoadConst-clause-whole : goal.returns-in-LoadConst-clause-whole
returns-in-LoadConst-clause-whole c =
    let a = c.args in
    let k = c.in-LoadConst in
    let good = operand_none _ _ _ c.fault-f.ensures c.is_some.ensures c.if-is_some.false in
    let d = order_alone k.field-0 k.field-1 a.tag (before a.asm.now) (rw k.is at good) in
    rw k.is ((rw (c.new.ensures, c.tail.ensures, k.is) at c.place.ensures.whole) ∙ d)
