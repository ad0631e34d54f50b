use Rattle.std.proofs.Common.{rules}
use Rattle.assembler.specs.State.{before}
use Rattle.routine.proofs.Bounds.{ok_open}
use Rattle.routine.proofs.Onward.{reloads_stop, epilogue_then}
use Rattle.routine.proofs.unwind.Goals as goal

pub returns-in_err-load_used_registers-clause-whole : goal.returns-in_err-load_used_registers-clause-whole
returns-in_err-load_used_registers-clause-whole c =
    λ cs. reloads_stop c.args.head c.args.line cs (before c.args.asm.now) _ _ _ (search rules) c.in_err-load_used_registers.ensures.whole

pub returns-clause-whole : goal.returns-clause-whole
returns-clause-whole c =
    λ cs. epilogue_then c.args.head c.args.line cs (before c.args.asm.now) _ c.in_ok-load_used_registers.ensures.whole _ c.epilogue.ensures.whole

pub returns-clause-open : goal.returns-clause-open
returns-clause-open c = ok_open _ _ _ _ c.epilogue.result _ c.epilogue.ensures.whole
