use mathlib.Core.Path.{sym, ap, ◌∙◌}
use Rattle.assembler.specs.State.{before}
use Rattle.orders.specs.Emitted.{unsaved_fault}
use Rattle.orders.proofs.Whole.{order_counted, order_unsaved}
use Rattle.orders.proofs.emit_in.Goals as goal

pub returns-then-not-index_holds-clause-whole : goal.returns-then-not-index_holds-clause-whole
returns-then-not-index_holds-clause-whole c =
    let a = c.args in
    order_counted a.head a.tag a.o (before a.asm.now) _ _ _ (sym c.index_holds.ensures ∙ c.if-not-index_holds.true) c.count_fault.ensures c.check_tail.ensures.whole

pub returns-then-not-saves_hold-clause-whole : goal.returns-then-not-saves_hold-clause-whole
returns-then-not-saves_hold-clause-whole c =
    let a = c.args in
    let f = c.unsaved.ensures ∙ ap unsaved_fault c.fault.ensures in
    order_unsaved a.head a.tag a.o (before a.asm.now) _ _ _ _ (sym c.index_holds.ensures ∙ c.if-not-index_holds.false) (sym c.saves_hold.ensures ∙ c.if-not-saves_hold.true) f c.goes.ensures c.check_tail-then-not-saves_hold.ensures.whole
