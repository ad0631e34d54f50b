use native.Mathlib.Omega.{arith}
use Rattle.print.proofs.Written.{all_left, none_left, room_left, less_left}
use Rattle.stale.specs.Inner.Text.{line_in}
use Rattle.stale.proofs.Texts.{one_more, no_more}
use Rattle.stale.proofs.put_labels.Goals as goal

pub loop-label-init : goal.loop-label-init
loop-label-init c = all_left _ _

pub put_own-requires : goal.put_own-requires
put_own-requires c =
    let l = c.loop-label in
    let a = c.args in
    room_left _ _ (one_more (line_in a.found.now) a.list.now l.label-index (omega arith)) l.invariant c.requires

pub loop-label-preserved : goal.loop-label-preserved
loop-label-preserved c =
    let l = c.loop-label in
    let a = c.args in
    less_left _ _ (one_more (line_in a.found.now) a.list.now l.label-index (omega arith)) l.invariant c.put_own.ensures

pub returns : goal.returns
returns c =
    let l = c.loop-label in
    let a = c.args in
    none_left (no_more (line_in a.found.now) a.list.now l.label-index (omega arith)) l.invariant
