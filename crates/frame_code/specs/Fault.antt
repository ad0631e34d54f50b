-- What the frames refuse by themselves (document 01, "Count"): the number, or 0. Cap and mask together are the head's.
use Rattle.std.specs.Prelude.{cond, ℕ}
use Rattle.refusal.specs.Number.{number_of}
use Rattle.refusal.specs.declared.Refusal.TheVariants.{Count}
use Rattle.ast.specs.declared.Head.{Head}
use Rattle.ast.specs.Counts.{prologue_holds, epilogue_holds}

-- `prologue_fast`, `prologue_indirect`
abbrev pub prologue_fault : Head → ℕ
prologue_fault H = cond (prologue_holds H) 0 (number_of Count)

-- `epilogue_fast`, `epilogue_indirect`
abbrev pub epilogue_fault : Head → ℕ
epilogue_fault H = cond (epilogue_holds H) 0 (number_of Count)
