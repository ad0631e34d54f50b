use mathlib.Core.List.{List}
use Prim.Native.Nat.{ℕ, ◌-◌}
use lib.ListN.{length, drop}
use Rattle.text.specs.Lines.{lines_of}
use Rattle.listing.specs.Inner.Marks.{marks_of}
use Rattle.listing.proofs.Noted.{Noted}
use Rattle.listing.proofs.marks.marks_from.Given as goal

abbrev pub from : List ℕ → ℕ → List ℕ
from file at = marks_of (lines_of (drop at file))

abbrev pub invariant-loop-at : goal.invariant-loop-at
invariant-loop-at l = Noted (from l.file l.initial.at) (from l.file l.at) l.marks l.k

abbrev pub decreases-loop-at : goal.decreases-loop-at
decreases-loop-at l = length l.file - l.at
