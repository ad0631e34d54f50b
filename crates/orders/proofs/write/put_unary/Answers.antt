use mathlib.Core.List.{[], ◌∷◌}
use borrow.Author.Tests.{eq-eqb, ne_eqb}
use Rattle.orders.specs.Code.{unary_code}
use Rattle.orders.proofs.Wrote.{put_none, told, put_code}
use Rattle.orders.proofs.write.put_unary.Goals as goal

pub returns-then-d-s : goal.returns-then-d-s
unfolding unary_code
returns-then-d-s c =
    let a = c.args in
    rw (c.in-Fmov.is, eq-eqb _ _ c.if-d-s.true) (put_none a.buf.now a.len)

pub returns-else-d-s : goal.returns-else-d-s
unfolding unary_code
returns-else-d-s c =
    rw (c.in-Fmov.is, ne_eqb _ _ c.if-d-s.false) (put_code (told _ _ c.fmv_d.ensures ∷ []) _ _ _ _ c.put.ensures)

pub returns-in-Recip : goal.returns-in-Recip
unfolding unary_code
returns-in-Recip c =
    rw c.in-Recip.is (put_code (told _ _ c.addi.ensures ∷ told _ _ c.fcvt_d_w.ensures ∷ told _ _ c.fdiv_d.ensures ∷ []) _ _ _ _ c.put-in-Recip.ensures)

pub returns-in-Round : goal.returns-in-Round
unfolding unary_code
returns-in-Round c =
    rw c.in-Round.is (put_code (told _ _ c.fcvt_l_d.ensures ∷ told _ _ c.fcvt_d_l.ensures ∷ []) _ _ _ _ c.put-in-Round.ensures)

pub returns-in-Floor : goal.returns-in-Floor
unfolding unary_code
returns-in-Floor c =
    rw c.in-Floor.is (put_code (told _ _ c.fcvt_l_d-in-Floor.ensures ∷ told _ _ c.fcvt_d_l-in-Floor.ensures ∷ []) _ _ _ _ c.put-in-Floor.ensures)

pub returns-in-Not : goal.returns-in-Not
unfolding unary_code
returns-in-Not c =
    rw c.in-Not.is (put_code (told _ _ c.fmv_x_d.ensures ∷ told _ _ c.not.ensures ∷ told _ _ c.fmv_d_x.ensures ∷ []) _ _ _ _ c.put-in-Not.ensures)
