use Rattle.std.proofs.Common.{sym, ◌∙◌}
use Rattle.assembler.specs.State.{before}
use Rattle.routine.proofs.Lined.{run_refused, run_accepted}
use Rattle.routine.proofs.read_whole.Goals as goal

pub returns-then-is_err-clause-whole : goal.returns-then-is_err-clause-whole
returns-then-is_err-clause-whole c =
    let r = c.read_file-answer in
    run_refused c.args.file.now (before c.args.asm.now) (before r.new.asm) r.result r.ensures.whole (sym c.is_err.ensures.value ∙ c.if-is_err.true) _ c.clear.ensures

pub returns-else-is_err-clause-whole : goal.returns-else-is_err-clause-whole
returns-else-is_err-clause-whole c =
    let r = c.read_file-answer in
    run_accepted c.args.file.now (before c.args.asm.now) (before r.new.asm) r.result r.ensures.whole (sym c.is_err.ensures.value ∙ c.if-is_err.false)
