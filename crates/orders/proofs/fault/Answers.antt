use mathlib.Core.Path.{sym, ap, ◌∙◌}
use Rattle.ast.specs.declared.View.{View}
use Rattle.orders.specs.Fault.{operand_fault, fault}
use Rattle.orders.proofs.fault.Goals as goal

pub returns-then-registers_fit : goal.returns-then-registers_fit
unfolding fault
returns-then-registers_fit c =
    rw (sym c.registers_fit.ensures ∙ c.if-registers_fit.true) (c.operand_fault.ensures ∙ ap (λ (v : View). operand_fault v.operand) c.uses.ensures)

pub returns-else-registers_fit : goal.returns-else-registers_fit
unfolding fault
returns-else-registers_fit c = rw (sym c.registers_fit.ensures ∙ c.if-registers_fit.false)
