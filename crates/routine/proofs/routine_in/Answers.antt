use Rattle.std.proofs.Common.{rules, ◌∙◌}
use Rattle.routine.proofs.Lined.{run_fresh}
use Rattle.routine.proofs.routine_in.Goals as goal

pub returns : goal.returns
returns c =
    let a = c.args in
    let q = c.read_whole-answer.ensures.whole ∙ run_fresh a.file.now a.jumps.now a.buf.now _ c.clear.ensures in
    search rules
