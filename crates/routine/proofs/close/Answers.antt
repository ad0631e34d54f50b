use Rattle.std.proofs.Common.{arith, ◌≤◌}
use Rattle.routine.proofs.Bounds.{finish_bounds}
use Rattle.routine.proofs.close.Goals as goal

pub overflow_cast-result : goal.overflow_cast-result
overflow_cast-result c = omega (arith, finish_bounds _ _ _ _ _ c.in_default.ensures)

pub overflow_cast-result-4 : goal.overflow_cast-result-4
overflow_cast-result-4 c = omega (arith, finish_bounds _ _ _ _ _ c.in_default.ensures)
