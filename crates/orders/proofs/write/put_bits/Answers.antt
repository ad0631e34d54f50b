use mathlib.Core.List.{[], ◌∷◌}
use Rattle.orders.proofs.Wrote.{told, put_code}
use Rattle.orders.proofs.write.put_bits.Goals as goal

pub returns : goal.returns
returns c i h = put_code (told _ _ c.fmv_x_d.ensures ∷ told _ _ c.fmv_x_d-2.ensures ∷ told _ i h ∷ told _ _ c.fmv_d_x.ensures ∷ []) _ _ _ _ c.put.ensures
