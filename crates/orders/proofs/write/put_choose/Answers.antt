use mathlib.Core.List.{[], ◌∷◌}
use Rattle.orders.proofs.Wrote.{told, put_code}
use Rattle.orders.proofs.write.put_choose.Goals as goal

pub returns : goal.returns
returns c =
    put_code (told _ _ c.fmv_x_d.ensures ∷ told _ _ c.fmv_x_d-2.ensures ∷ told _ _ c.and.ensures ∷ told _ _ c.not.ensures ∷ told _ _ c.and-2.ensures ∷ told _ _ c.or.ensures ∷ told _ _ c.fmv_d_x.ensures ∷ []) _ _ _ _ c.put.ensures
