-- Where a line's code starts.
use Prim.Native.Nat.{ℕ, ◌+◌}
use lib.ListN.{take}
use Rattle.reading.specs.Program.{Program}
use Rattle.call.specs.Layout.{span, body, entry}

module _ (p : Program) where
  -- where line n starts
  unfoldable pub line_offset : ℕ → ℕ
  line_offset n = span (entry p) + span (body (take n p.lines))
