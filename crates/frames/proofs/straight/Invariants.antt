use Prim.Native.Nat.{◌-◌}
use mathlib.Core.List.{◌++◌}
use Rattle.assembler.specs.State.{SameLent, before}
use Rattle.frame_code.specs.Items.{code, times_over}
use Rattle.frame_code.specs.Inner.Copies.{copy_first, copy_each}
use Rattle.frames.specs.Inner.Whole.{is_out}
use Rattle.frames.proofs.Parts.{Left}
use Rattle.frames.proofs.straight.Given as goal

abbrev pub invariant-loop : goal.invariant-loop
invariant-loop l =
    let o = is_out l.fn.way in
    (Left 0 (code (copy_first o l.states ++ times_over l.n (copy_each o))) (before l.fn.asm) (code (times_over (l.n - l.counter) (copy_each o))) (before l.asm))
    × SameLent l.fn.asm l.asm
