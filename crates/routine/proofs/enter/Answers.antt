use Rattle.std.proofs.Common.{rules}
use Rattle.assembler.specs.State.{before}
use Rattle.routine.proofs.Onward.{enter_stops, enter_goes}
use Rattle.routine.proofs.enter.Goals as goal

pub returns-in_err-prologue-clause-whole : goal.returns-in_err-prologue-clause-whole
returns-in_err-prologue-clause-whole c = λ f. enter_stops c.args.head (before c.args.asm.now) _ f _ _ (search rules) c.in_err-prologue.ensures.whole

pub returns-clause-whole : goal.returns-clause-whole
returns-clause-whole c = λ f. enter_goes c.args.head (before c.args.asm.now) _ f c.in_ok-prologue.ensures.whole _ c.save_used_registers.ensures.whole
