use mathlib.Core.List.{[], ◌∷◌}
use borrow.Author.Tests.{eq-eqb, ne_eqb}
use Rattle.orders.specs.Code.{binary_code}
use Rattle.orders.proofs.Wrote.{told, put_code}
use Rattle.orders.proofs.write.put_xor.Goals as goal

pub returns-then-a-b : goal.returns-then-a-b
unfolding binary_code
returns-then-a-b c = rw (eq-eqb _ _ c.if-a-b.true) (put_code (told _ _ c.fmv_d_x.ensures ∷ []) _ _ _ _ c.put.ensures)

pub returns-else-a-b : goal.returns-else-a-b
unfolding binary_code
returns-else-a-b c = rw (ne_eqb _ _ c.if-a-b.false) (c.put_bits.ensures _ c.xor.ensures)
