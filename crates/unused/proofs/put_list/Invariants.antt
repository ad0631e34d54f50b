use mathlib.Core.Bool.{Bool}
use mathlib.Core.List.{List}
use Prim.Native.Nat.{ℕ, ◌≤◌}
use lib.ListN.{get_or}
use Rattle.unused.specs.Unused.{is_unused}
use Rattle.unused.proofs.From.{Written}
use Rattle.unused.proofs.put_list.Given as goal

-- the test of a label
abbrev pub unused-at : List ℕ → ℕ → Bool
unused-at memory l = is_unused (get_or memory l 0)

abbrev pub invariant-loop-l : goal.invariant-loop-l
invariant-loop-l l = Written (unused-at l.labels) l.l l.initial.out l.out l.k × (l.k ≤ l.l)
