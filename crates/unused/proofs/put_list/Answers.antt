use mathlib.Core.Path.{sym, ◌∙◌}
use native.Mathlib.Omega.{arith}
use Rattle.unused.proofs.From.{none_written, one_written, same_written}
use Rattle.unused.proofs.put_list.Invariants.{unused-at}
use Rattle.unused.proofs.put_list.Goals as goal
use Rattle.unused.proofs.put_list.Goals.{then-is_unused, else-is_unused}

pub loop-l-init : goal.loop-l-init
loop-l-init c = (none_written (unused-at c.args.labels.now) c.args.out.now, omega arith)

pub loop-l-preserved : goal.loop-l-preserved
loop-l-preserved c =
    let t = unused-at c.args.labels.now in
    let i = c.loop-l in
    elim c.if-is_unused.branch [
      | then-is_unused w ↦ (rw (w.out-is, w.k-is) (one_written t c.args.out.now i.out i.l i.k i.invariant.0 (sym c.is_unused.ensures ∙ w.if-is_unused.true)), omega (arith, w.k-is, i.invariant.1))
      | else-is_unused w ↦ (rw (w.out-is, w.k-is) (same_written t c.args.out.now i.out i.l i.k i.invariant.0 (sym c.is_unused.ensures ∙ w.if-is_unused.false)), omega (arith, w.k-is, i.invariant.1))
    ]
