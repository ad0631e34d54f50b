use mathlib.Core.List.{[], ◌∷◌}
use Rattle.orders.specs.Code.{scratched_code}
use Rattle.orders.proofs.Wrote.{told, put_code}
use Rattle.orders.proofs.write.put_scratched.Goals as goal

pub returns-in-Sign : goal.returns-in-Sign
unfolding scratched_code
returns-in-Sign c =
    rw c.in-Sign.is (put_code (told _ _ c.fmv_d_x.ensures ∷ told _ _ c.flt_d.ensures ∷ told _ _ c.flt_d-in-Sign.ensures ∷ told _ _ c.sub.ensures ∷ told _ _ c.fcvt_d_w.ensures ∷ []) _ _ _ _ c.put.ensures)

pub returns-in-Frac : goal.returns-in-Frac
unfolding scratched_code
returns-in-Frac c =
    rw c.in-Frac.is (put_code (told _ _ c.fcvt_l_d.ensures ∷ told _ _ c.fcvt_d_l.ensures ∷ told _ _ c.fsub_d.ensures ∷ []) _ _ _ _ c.put-in-Frac.ensures)
