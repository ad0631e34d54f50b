use mathlib.Core.Path.{ap, ◌∙◌}
use Rattle.ast.specs.declared.Order.{Order}
use Rattle.assembler.specs.State.{before}
use Rattle.orders.specs.Emitted.{emitted}
use Rattle.fast.specs.Inner.Packed.{unpacked}
use Rattle.fast.proofs.Emitting.{jumped}
use Rattle.fast.proofs.jumping.Goals as goal

pub returns-clause-whole : goal.returns-clause-whole
returns-clause-whole c =
    let a = c.args in
    let s = before a.asm.now in
    jumped a.tag (unpacked a.q) s _ c.emit.result _ c.is_ok.ensures.value (c.emit.ensures.whole ∙ ap (λ (o : Order). emitted a.tag o s) c.unpack.ensures)
