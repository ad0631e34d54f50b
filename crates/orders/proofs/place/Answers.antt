use borrow.Author.Rules.{rules}
use native.Mathlib.Omega.{arith}
use mathlib.Core.Path.{◌∙◌}
use Rattle.assembler.specs.State.{before}
use Rattle.orders.proofs.Whole.{order_full, order_room, order_done}
use Rattle.orders.proofs.place.Goals as goal

pub returns-in_err-check_tail-clause-whole : goal.returns-in_err-check_tail-clause-whole
returns-in_err-check_tail-clause-whole c =
    let a = c.args in
    order_full a.o a.t a.tag (before a.asm.now) c.requires.0 c.requires.1 _ c.needed-n.ensures.1 _ _ (search rules) c.in_err-check_tail.ensures.whole

pub put_instrs-asm-requires : goal.put_instrs-asm-requires
put_instrs-asm-requires c =
    let a = c.args in
    let r = order_room a.o a.t a.tag (before a.asm.now) c.requires.0 c.requires.1 _ c.needed-n.ensures.1 c.in_ok-check_tail.ensures.whole in
    (c.requires.0, omega (arith, r))

pub returns-clause-whole : goal.returns-clause-whole
returns-clause-whole c =
    let a = c.args in
    let d = order_done a.o a.t a.tag (before a.asm.now) c.requires.0 c.requires.1 _ c.needed-n.ensures.1 c.in_ok-check_tail.ensures.whole _ _ c.requires.2 c.put_instrs-asm.ensures in
    (rw c.new.ensures at c.place.ensures.whole) ∙ d
