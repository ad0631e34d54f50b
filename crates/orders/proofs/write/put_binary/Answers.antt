use mathlib.Core.List.{[], ◌∷◌}
use Rattle.orders.specs.Code.{binary_code}
use Rattle.orders.proofs.Wrote.{told, put_code}
use Rattle.orders.proofs.write.put_binary.Goals as goal

pub returns-in-Minus : goal.returns-in-Minus
unfolding binary_code
returns-in-Minus c =
    rw c.in-Minus.is (put_code (told _ _ c.fsub_d.ensures ∷ []) _ _ _ _ c.put.ensures)

pub returns-in-Times : goal.returns-in-Times
unfolding binary_code
returns-in-Times c =
    rw c.in-Times.is (put_code (told _ _ c.fmul_d.ensures ∷ []) _ _ _ _ c.put-in-Times.ensures)

pub returns-in-Divide : goal.returns-in-Divide
unfolding binary_code
returns-in-Divide c =
    rw c.in-Divide.is (put_code (told _ _ c.fdiv_d.ensures ∷ []) _ _ _ _ c.put-in-Divide.ensures)

pub returns-in-Gt : goal.returns-in-Gt
unfolding binary_code
returns-in-Gt c =
    rw c.in-Gt.is (put_code (told _ _ c.fgt_d.ensures ∷ told _ _ c.neg.ensures ∷ told _ _ c.fmv_d_x.ensures ∷ []) _ _ _ _ c.put-in-Gt.ensures)

pub returns-in-Neq : goal.returns-in-Neq
unfolding binary_code
returns-in-Neq c =
    rw c.in-Neq.is (put_code (told _ _ c.feq_d.ensures ∷ told _ _ c.neg-in-Neq.ensures ∷ told _ _ c.not.ensures ∷ told _ _ c.fmv_d_x-in-Neq.ensures ∷ []) _ _ _ _ c.put-in-Neq.ensures)

pub returns-in-Andnot : goal.returns-in-Andnot
unfolding binary_code
returns-in-Andnot c =
    rw c.in-Andnot.is (put_code (told _ _ c.fmv_x_d.ensures ∷ told _ _ c.not-in-Andnot.ensures ∷ told _ _ c.fmv_x_d-in-Andnot.ensures ∷ told _ _ c.and-in-Andnot.ensures ∷ told _ _ c.fmv_d_x-in-Andnot.ensures ∷ []) _ _ _ _ c.put-in-Andnot.ensures)

pub returns-in-And : goal.returns-in-And
unfolding binary_code
returns-in-And c = rw c.in-And.is (c.put_bits.ensures _ c.and.ensures)

pub returns-in-Or : goal.returns-in-Or
unfolding binary_code
returns-in-Or c = rw c.in-Or.is (c.put_bits-in-Or.ensures _ c.or.ensures)
