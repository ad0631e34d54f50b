use Prim.Native.Nat.{◌%◌, ◌-◌}
use Rattle.fast.specs.Inner.Fields.{registers_of, bound_of}
use Rattle.fast.proofs.Fields.{Through}
use Rattle.fast.proofs.numbers.Given as goal

abbrev pub invariant-loop-i : goal.invariant-loop-i
invariant-loop-i l = Through l.s l.a (registers_of (l.k % 16)) (bound_of (l.k % 16)) l.at (l._i-end - l._i) l.scale l.sum
