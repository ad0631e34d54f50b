use mathlib.Core.Path.{refl, sym, ◌∙◌}
use Rattle.assembler.specs.State.{before}
use Rattle.fast.specs.Inner.Fast.{fast_line}
use Rattle.fast.specs.Inner.Packed.{unpacked}
use Rattle.fast.proofs.Apart.{unsaid, says_order}
use Rattle.fast.proofs.Judged.{within_jumps}
use Rattle.fast.proofs.Written.{no_save, no_place, judged}
use Rattle.fast.proofs.line.Goals as goal

pub returns-in_default-clause-whole : goal.returns-in_default-clause-whole
unfolding fast_line
returns-in_default-clause-whole c = (rw (unsaid c.args.line.now c.order_in.result c.order_in.ensures c.in_default.is), λ h. refl)

pub returns-then-not-keeps-clause-whole : goal.returns-then-not-keeps-clause-whole
unfolding fast_line
returns-then-not-keeps-clause-whole c =
    let s = before c.args.asm.now in
    let o = says_order c.args.line.now c.order_in.result c.order_in.ensures c.in-Some.q c.in-Some.is in
    let e = no_save c.args.head c.args.tag (unpacked c.in-Some.q) s (sym c.keeps.ensures ∙ c.if-not-keeps.true) in
    (rw o (sym e), λ h. refl)

pub returns-then-not-is_roomy-clause-whole : goal.returns-then-not-is_roomy-clause-whole
unfolding fast_line
returns-then-not-is_roomy-clause-whole c =
    let s = before c.args.asm.now in
    let o = says_order c.args.line.now c.order_in.result c.order_in.ensures c.in-Some.q c.in-Some.is in
    let e = no_place c.args.head c.args.tag (unpacked c.in-Some.q) s (sym c.is_roomy.ensures ∙ c.if-not-is_roomy.true) in
    (rw o (sym e), λ h. refl)

pub returns-then-q-lt-LOAD_CONST-clause-whole : goal.returns-then-q-lt-LOAD_CONST-clause-whole
unfolding fast_line
returns-then-q-lt-LOAD_CONST-clause-whole c =
    let a = c.args in
    let o = says_order a.line.now c.order_in.result c.order_in.ensures c.in-Some.q c.in-Some.is in
    let e = c.plain.ensures.whole a.tag in
    (rw o e.0, e.1)

pub returns-else-q-lt-LOAD_CONST-clause-whole : goal.returns-else-q-lt-LOAD_CONST-clause-whole
unfolding fast_line
returns-else-q-lt-LOAD_CONST-clause-whole c =
    let s = before c.args.asm.now in
    let o = says_order c.args.line.now c.order_in.result c.order_in.ensures c.in-Some.q c.in-Some.is in
    let e = judged c.args.head c.args.tag (unpacked c.in-Some.q) s (within_jumps c.args.head c.in-Some.q c.if-q-lt-LOAD_CONST.false) (sym c.keeps.ensures ∙ c.if-not-keeps.false) (sym c.is_roomy.ensures ∙ c.if-not-is_roomy.false) in
    (rw o (c.jumping.ensures.whole.0 ∙ sym e), c.jumping.ensures.whole.1)
