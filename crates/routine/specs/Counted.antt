-- The law of document 02, point 2, for a routine: the numbers "add up to the jump count".
use Rattle.std.specs.Prelude.{◌≡◌, List, ℕ}
use Rattle.finish.specs.Counted.{total}
use Rattle.routine.specs.Run.{run}

-- of what it leaves in lent memory, whether the file is accepted or refused
abbrev pub RunAdds : Type 0
RunAdds = (file jumps buf : List ℕ) → total (run file jumps buf).state.labels ≡ (run file jumps buf).state.asm.jumps
