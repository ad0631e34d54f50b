use borrow.Author.Rules.{rules}
use Prim.Native.Nat.{◌*◌}
use Rattle.assembler.proofs.Writes.{part_is}
use Rattle.assembler.proofs.note.Goals as goal

pub returns : goal.returns
returns c =
    let w = c.args in
    rw c.copy_from_slice.ensures.after (part_is w.jumps.now (5 * w.i) _ w.numbers (search rules) (search rules))
