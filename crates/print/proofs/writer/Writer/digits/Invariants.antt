use mathlib.Core.Path.{◌≡◌}
use Prim.Native.Nat.{◌-◌, ◌/◌, ◌^◌, ◌≤◌}
use lib.ListN.{length}
use lib.Seq.{sets}
use Rattle.text.specs.Digits.{digits}
use Rattle.print.proofs.writer.Writer.digits.Given as goal

abbrev pub invariant-loop-i : goal.invariant-loop-i
invariant-loop-i l =
    (l.self.at ≡ l.initial.self.at) × (length l.self.out.now ≡ length l.initial.self.out.now) × (l.self.at ≤ l.i) × (l.rest ≡ l.n / l.base ^ (l.end - l.i))
    × (l.self.out.now ≡ sets l.initial.self.out.now l.i (digits l.base (l.end - l.i) l.n)) × (l.self.out.ghost_name ≡ l.initial.self.out.ghost_name)
