use Rattle.std.proofs.Common.{◌≡◌, ◌-◌, length}
use Rattle.assembler.specs.Memory.{jumps_of}
use Rattle.finish.specs.Finish.{patched}
use Rattle.finish.proofs.write_jumps.Given as goal

abbrev pub invariant-loop-i : goal.invariant-loop-i
invariant-loop-i l = (length l.buf ≡ length l.initial.buf) × (patched l.labels l.initial.buf (jumps_of l.jumps 0 l.n) ≡ patched l.labels l.buf (jumps_of l.jumps l.i (l.n - l.i)))
