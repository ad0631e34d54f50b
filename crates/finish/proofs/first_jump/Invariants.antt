use Rattle.std.proofs.Common.{◌≡◌, ◌+◌, ◌-◌}
use Rattle.refusal.specs.Number.{number_of}
use Rattle.finish.specs.Finish.{first}
use Rattle.finish.specs.Inner.Finish.{has_fault}
use Rattle.finish.proofs.first_jump.Given as goal

abbrev pub invariant-loop-i : goal.invariant-loop-i
invariant-loop-i l =
    first (has_fault (number_of l.want) l.labels l.len l.jumps) 0 l.n ≡ l.i + first (has_fault (number_of l.want) l.labels l.len l.jumps) l.i (l.n - l.i)
