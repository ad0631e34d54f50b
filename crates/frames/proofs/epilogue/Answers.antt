use native.Mathlib.Omega.{arith}
use mathlib.Core.Path.{sym, ap, ◌∙◌}
use Prim.Native.Nat.{ℕ}
use Rattle.assembler.specs.State.{before}
use Rattle.assembler.specs.Put.{put}
use Rattle.frame_code.specs.Items.{epilogue}
use Rattle.frames.proofs.Parts.{faulted}
use Rattle.frames.proofs.Counts.{an_end_fault, no_end_fault}
use Rattle.frames.proofs.Wholes.{epilogue_is_fast, epilogue_is_indirect}
use Rattle.frames.proofs.epilogue.Goals as goal

pub returns-then-not-epilogue_holds-clause-whole : goal.returns-then-not-epilogue_holds-clause-whole
returns-then-not-epilogue_holds-clause-whole c =
    let H = c.args.head in
    faulted c.args.tag 9 _ (epilogue H) _ (before c.args.asm.now) _ (an_end_fault H (sym c.epilogue_holds.ensures ∙ c.if-not-epilogue_holds.true)) (λ z. omega arith) c.epilogue_goes.ensures c.check_whole.ensures.whole

pub returns-in-Fast-clause-whole : goal.returns-in-Fast-clause-whole
returns-in-Fast-clause-whole c =
    let H = c.args.head in
    c.fast_end.ensures.whole ∙ epilogue_is_fast H c.args.tag _ c.in-Fast.is ∙ ap (λ (k : ℕ). put c.args.tag k (epilogue H) (before c.args.asm.now)) (no_end_fault H (sym c.epilogue_holds.ensures ∙ c.if-not-epilogue_holds.false))

pub returns-in-Indirect-clause-whole : goal.returns-in-Indirect-clause-whole
returns-in-Indirect-clause-whole c =
    let H = c.args.head in
    c.indirect_end.ensures.whole ∙ epilogue_is_indirect H c.args.tag _ c.in-Indirect.is ∙ ap (λ (k : ℕ). put c.args.tag k (epilogue H) (before c.args.asm.now)) (no_end_fault H (sym c.epilogue_holds.ensures ∙ c.if-not-epilogue_holds.false))
