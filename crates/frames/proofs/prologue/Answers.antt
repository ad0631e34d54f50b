use native.Mathlib.Omega.{arith}
use mathlib.Core.Path.{sym, ap, ◌∙◌}
use Prim.Native.Nat.{ℕ}
use Rattle.assembler.specs.State.{before}
use Rattle.assembler.specs.Put.{put}
use Rattle.frame_code.specs.Items.{prologue}
use Rattle.frames.proofs.Parts.{faulted}
use Rattle.frames.proofs.Counts.{a_fault, no_fault}
use Rattle.frames.proofs.Wholes.{prologue_is_fast, prologue_is_indirect}
use Rattle.frames.proofs.prologue.Goals as goal

pub returns-then-not-prologue_holds-clause-whole : goal.returns-then-not-prologue_holds-clause-whole
returns-then-not-prologue_holds-clause-whole c =
    let H = c.args.head in
    faulted c.args.tag 9 _ (prologue H) _ (before c.args.asm.now) _ (a_fault H (sym c.prologue_holds.ensures ∙ c.if-not-prologue_holds.true)) (λ z. omega arith) c.prologue_goes.ensures c.check_whole.ensures.whole

pub returns-in-Fast-clause-whole : goal.returns-in-Fast-clause-whole
returns-in-Fast-clause-whole c =
    let H = c.args.head in
    c.fast_start.ensures.whole ∙ prologue_is_fast H c.args.tag _ c.in-Fast.is ∙ ap (λ (k : ℕ). put c.args.tag k (prologue H) (before c.args.asm.now)) (no_fault H (sym c.prologue_holds.ensures ∙ c.if-not-prologue_holds.false))

pub returns-in-Indirect-clause-whole : goal.returns-in-Indirect-clause-whole
returns-in-Indirect-clause-whole c =
    let H = c.args.head in
    c.indirect_start.ensures.whole ∙ prologue_is_indirect H c.args.tag _ c.in-Indirect.is ∙ ap (λ (k : ℕ). put c.args.tag k (prologue H) (before c.args.asm.now)) (no_fault H (sym c.prologue_holds.ensures ∙ c.if-not-prologue_holds.false))
