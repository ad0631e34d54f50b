use mathlib.Core.Path.{sym, ◌∙◌}
use Prim.Native.Nat.{◌≤◌}
use borrow.Author.Tests.{le-ltb}
use native.Mathlib.Omega.{arith}
use Rattle.print.proofs.Listings.{data_own, no_instr}
use Rattle.print.proofs.listing.is_foreign.Goals as goal

pub returns-then-offset-constants : goal.returns-then-offset-constants
returns-then-offset-constants c =
    let a = c.args in
    no_instr a.constants a.offset a.word _ _ c.is_none.ensures c.if-offset-constants.true c.decode.ensures.0

pub returns-else-offset-constants : goal.returns-else-offset-constants
returns-else-offset-constants c =
    let a = c.args in
    let h : a.constants ≤ a.offset = omega arith in
    le-ltb _ _ h ∙ sym (data_own a.constants a.offset a.word h)
