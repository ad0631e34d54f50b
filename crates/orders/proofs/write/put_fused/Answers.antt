use mathlib.Core.List.{[], ◌∷◌}
use Rattle.orders.proofs.Wrote.{told, put_code}
use Rattle.orders.proofs.write.put_fused.Goals as goal

pub returns : goal.returns
returns c = put_code (told _ _ c.fused.ensures ∷ []) _ _ _ _ c.put.ensures
