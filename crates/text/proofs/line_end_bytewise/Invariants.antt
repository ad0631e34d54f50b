use Prim.Native.Nat.{ℕ}
use Rattle.text.specs.Lines.{Ends}
use Rattle.text.proofs.line_end_bytewise.Given as goal

abbrev pub invariant-loop-i : goal.invariant-loop-i
invariant-loop-i l = (r : ℕ) → Ends l.file l.i r → Ends l.file l.a r
