use mathlib.Core.Path.{sym}
use native.Mathlib.Omega.{arith}
use borrow.Author.Rules.{rules}
use Rattle.text.proofs.Steps.{ends_here, ends_near}
use Rattle.text.proofs.field_end.Goals as goal

pub returns-then-s-a-eq44 : goal.returns-then-s-a-eq44
returns-then-s-a-eq44 c = (sym (ends_here _ _ (search rules) c.if-s-a-eq44.true), omega arith, λ h. h)

pub returns-then-s-e-eq44 : goal.returns-then-s-e-eq44
returns-then-s-e-eq44 c =
    let e = c.near_end-e.ensures in
    (ends_near _ _ _ (search rules) c.if-s-a-eq44.false e.0 c.if-s-e-eq44.true, omega (arith, e.1), λ h. omega (arith, e.2))
