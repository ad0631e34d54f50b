use mathlib.Core.Path.{◌≡◌, ap}
use mathlib.Core.Logic.{inl, inr}
use mathlib.Core.List.{[]}
use Rattle.orders.specs.Inner.Parts.{instrs}
use native.Mathlib.Omega.{arith}
use Rattle.orders.proofs.Whole.{Small, order_small}
use Rattle.orders.proofs.Wrote.{put_none}
use Rattle.ast.specs.Uses.{uses}
use Rattle.ast.specs.declared.Order.{Order}
use Rattle.orders.proofs.write.put_instrs.Goals as goal

pub overflow_mul-i-in-Load : goal.overflow_mul-i-in-Load
overflow_mul-i-in-Load c =
    let index : (o : Order) → c.args.o ≡ o → Small (uses o).operand = λ o e. order_small c.args.o c.requires.0 (ap (λ (o : Order). (uses o).operand) e) in
    omega (arith, index _ c.in-Load.is)

pub overflow_mul-i-in-Save : goal.overflow_mul-i-in-Save
overflow_mul-i-in-Save c =
    let index : (o : Order) → c.args.o ≡ o → Small (uses o).operand = λ o e. order_small c.args.o c.requires.0 (ap (λ (o : Order). (uses o).operand) e) in
    omega (arith, index _ c.in-Save.is)

pub overflow_mul-i : goal.overflow_mul-i
overflow_mul-i c =
    let index : (o : Order) → c.args.o ≡ o → Small (uses o).operand = λ o e. order_small c.args.o c.requires.0 (ap (λ (o : Order). (uses o).operand) e) in
    omega (arith, index _ c.in-Ifelse.is)

pub returns-in-LoadConst : goal.returns-in-LoadConst
returns-in-LoadConst c =
    let a = c.args in
    let bare : instrs a.o ≡ [] = elim c.in-LoadConst.is [ inl w ↦ ap instrs w.2 | inr w ↦ ap instrs w.1 ] in
    rw bare (put_none a.buf.now a.len)
