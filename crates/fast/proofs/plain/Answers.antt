use mathlib.Core.Path.{refl, sym, ◌∙◌}
use Rattle.base.proofs.Bools.{true_not_false}
use Rattle.assembler.specs.State.{before}
use Rattle.fast.specs.Inner.Packed.{unpacked}
use Rattle.fast.proofs.Written.{plain_fits, cell_refused, record_refused, done}
use Rattle.fast.proofs.plain.Goals as goal

pub returns-in-Some-clause-whole : goal.returns-in-Some-clause-whole
returns-in-Some-clause-whole c tag =
    let a = c.args in
    let r = c.requires in
    (done a.head (unpacked a.q) (before a.asm.now) (plain_fits a.q r.0) r.1 r.2 (sym c.within.ensures ∙ c.if-within.true) _ _ c.write.ensures _ (sym c.is_ready.ensures ∙ c.if-is_ready.true) c.in-Some.is tag, λ h. absurd (true_not_false (sym h)))

pub returns-else-is_ready-clause-whole : goal.returns-else-is_ready-clause-whole
returns-else-is_ready-clause-whole c tag =
    let a = c.args in
    let r = c.requires in
    (record_refused a.head (unpacked a.q) (before a.asm.now) (plain_fits a.q r.0) r.1 r.2 (sym c.within.ensures ∙ c.if-within.true) (sym c.is_ready.ensures ∙ c.if-is_ready.false) tag, λ h. refl)

pub returns-else-within-clause-whole : goal.returns-else-within-clause-whole
returns-else-within-clause-whole c tag =
    let a = c.args in
    let r = c.requires in
    (cell_refused a.head (unpacked a.q) (before a.asm.now) (plain_fits a.q r.0) r.1 r.2 (sym c.within.ensures ∙ c.if-within.false) tag, λ h. refl)
