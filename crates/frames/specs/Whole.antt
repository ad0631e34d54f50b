-- What the functions that take counts do: a whole prologue or epilogue is placed, or it is refused.
use Rattle.std.specs.Prelude.{ℕ}
use Rattle.assembler.specs.State.{State, Outcome}
use Rattle.assembler.specs.Put.{put}
use Rattle.ast.specs.declared.Frame.{Frame}
use Rattle.ast.specs.declared.Head.{Head}
use Rattle.frame_code.specs.Items.{prologue, epilogue}
use Rattle.frame_code.specs.Fault.{prologue_fault, epilogue_fault}

-- a line 1 with these counts, and no register saved
abbrev pub head_of : Frame → (cap states obs last : ℕ) → Head
head_of F cap states obs last = record { frame = F; cap = cap; states = states; obs = obs; last = last; mask = 0 }

abbrev pub prologue_put : (tag : ℕ) → Head → State → Outcome
prologue_put tag H = put tag (prologue_fault H) (prologue H)

abbrev pub epilogue_put : (tag : ℕ) → Head → State → Outcome
epilogue_put tag H = put tag (epilogue_fault H) (epilogue H)
