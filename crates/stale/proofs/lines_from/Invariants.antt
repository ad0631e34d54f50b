use Prim.Native.Nat.{◌+◌, ◌-◌, ◌≤◌, ◌<◌}
use lib.ListN.{length, drop}
use Rattle.text.specs.Lines.{lines_of}
use Rattle.stale.proofs.Scan.{Found}
use Rattle.stale.proofs.lines_from.Given as goal

abbrev pub invariant-loop-at : goal.invariant-loop-at
invariant-loop-at l = (l.at < length l.file → l.next ≤ l.at + 1) × Found (lines_of (drop l.initial.at l.file)) (lines_of (drop l.at l.file)) l.next l.found

abbrev pub decreases-loop-at : goal.decreases-loop-at
decreases-loop-at l = length l.file - l.at
