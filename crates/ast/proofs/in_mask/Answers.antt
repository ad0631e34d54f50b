use borrow.Author.Tests.{le-ltb}
use Rattle.ast.proofs.Masked.{no_bit}
use Rattle.ast.proofs.in_mask.Goals as goal

pub returns-else-r-lt32 : goal.returns-else-r-lt32
returns-else-r-lt32 c =
    let a = c.args in
    rw (le-ltb a.r 32 c.if-r-lt32.false) (no_bit a.mask a.r c.ranges.mask.fits c.if-r-lt32.false)
