-- What the counts of line 1 say where they hold.
use mathlib.Core.Path.{◌≡◌}
use mathlib.Core.Bool.{true, false}
use Rattle.ast.specs.Counts.{prologue_holds, epilogue_holds}
use Rattle.ast.specs.declared.Head.{Head}
use Rattle.frame_code.specs.Fault.{prologue_fault, epilogue_fault}

module _ (H : Head) where
  pub no_fault : prologue_holds H ≡ true → 0 ≡ prologue_fault H
  no_fault h = rw h

  pub a_fault : prologue_holds H ≡ false → 9 ≡ prologue_fault H
  a_fault h = rw h

  pub no_end_fault : epilogue_holds H ≡ true → 0 ≡ epilogue_fault H
  no_end_fault h = rw h

  pub an_end_fault : epilogue_holds H ≡ false → 9 ≡ epilogue_fault H
  an_end_fault h = rw h
