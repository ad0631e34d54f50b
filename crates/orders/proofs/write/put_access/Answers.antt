use mathlib.Core.Path.{◌∙◌, ap}
use mathlib.Core.List.{[], ◌∷◌}
use native.Mathlib.Omega.{arith}
use lib.IntN.{ℤ, pos}
use Rattle.accesses.specs.Plans.{answer_of, access_instr}
use Rattle.accesses.proofs.Numbers.{back_small}
use Rattle.orders.proofs.Wrote.{told, put_code, is_answer, near_is, far_is}
use Rattle.orders.proofs.write.put_access.Goals as goal

pub put-requires : goal.put-requires
put-requires c =
    let a = c.args in
    rw (near_is a.k a.r a.base a.n c.if-n-lt2048.true) at c.requires

pub returns-then-n-lt2048 : goal.returns-then-n-lt2048
returns-then-n-lt2048 c =
    let a = c.args in
    let small = ap (λ (z : ℤ). answer_of (access_instr a.k a.r a.base z)) (back_small a.n (omega (arith, c.if-n-lt2048.true))) in
    rw (near_is a.k a.r a.base a.n c.if-n-lt2048.true)
    (put_code (told _ (access_instr a.k a.r a.base (pos a.n)) (is_answer _ _ (c.access_at.ensures ∙ small)) ∷ []) _ _ _ _ c.put.ensures)

pub put_far-requires : goal.put_far-requires
put_far-requires c =
    let a = c.args in
    rw (far_is a.k a.r a.base a.n c.if-n-lt2048.false c.ranges.n.fits) at c.requires

pub returns-else-n-lt2048 : goal.returns-else-n-lt2048
returns-else-n-lt2048 c =
    let a = c.args in
    rw (far_is a.k a.r a.base a.n c.if-n-lt2048.false c.ranges.n.fits)
    (c.put_far.ensures (access_instr a.k a.r 5 (pos 0)) (is_answer _ _ c.access_at-else-n-lt2048.ensures))
