use Rattle.std.proofs.Common.{sym}
use Rattle.assembler.specs.State.{State, state}
use Rattle.finish.proofs.Ends.{ends}
use Rattle.finish.proofs.apply_jumps.Goals as goal

pub returns : goal.returns
returns c =
    let s : State = state c.args.asm.now c.args.labels.now c.args.jumps.now c.args.buf.now in
    ends s 0 _ (sym c.in_ok-check.ensures.1) (rw c.write_jumps.ensures)
