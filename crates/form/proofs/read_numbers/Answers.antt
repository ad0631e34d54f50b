use mathlib.Core.Path.{◌∙◌}
use Rattle.form.proofs.Shapes.{none_filled, bad_number, one_further, ends_there, goes_further}
use Rattle.form.proofs.read_numbers.Goals as goal

pub loop-i-init : goal.loop-i-init
loop-i-init g c = none_filled _ _ _ _

pub loop-i-preserved : goal.loop-i-preserved
loop-i-preserved g c = one_further _ _ g.row.N _ _ _ c.loop-i.invariant c.loop-i-test.true _ c.number_at-n.ensures _ c.in_ok-all.was

pub returns-in_err-all : goal.returns-in_err-all
returns-in_err-all g c =
    c.from_residual.ensures ∙ bad_number _ _ g.row.N _ _ _ c.loop-i.invariant c.loop-i-test.true _ c.number_at-n.ensures c.in_err-all.was

pub returns-then-s-at : goal.returns-then-s-at
returns-then-s-at g c = ends_there _ _ g.row.N _ _ _ c.loop-i.invariant c.loop-i-test.false c.if-s-at.true

pub returns-else-s-at : goal.returns-else-s-at
returns-else-s-at g c = goes_further _ _ g.row.N _ _ _ c.loop-i.invariant c.loop-i-test.false c.if-s-at.false
