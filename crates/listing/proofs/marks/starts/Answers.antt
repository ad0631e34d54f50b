use mathlib.Core.Path.{sym}
use native.Mathlib.Omega.{arith}
use Rattle.listing.proofs.Noted.{too_short}
use Rattle.listing.proofs.marks.starts.Goals as goal

pub returns-then-line-n : goal.returns-then-line-n
returns-then-line-n c = let a = c.args in sym (too_short a.word.now a.line.now (omega arith))
