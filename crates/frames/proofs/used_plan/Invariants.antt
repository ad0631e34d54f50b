use mathlib.Core.Path.{◌≡◌}
use mathlib.Core.List.{map}
use Prim.Native.Nat.{◌-◌, ◌^◌, ◌≤◌, ◌<◌}
use lib.ListN.{length}
use Rattle.accesses.specs.Plans.{plan_of}
use Rattle.ast.specs.Mask.{chosen, is_preserved, saved}
use Rattle.frames.specs.Inner.Whole.{moved}
use Rattle.frames.proofs.Digits.{digits}
use Rattle.frames.proofs.Pushes.{all_pushed}
use Rattle.frames.proofs.used_plan.Given as goal

-- the preserved registers of the set bits from r on are to come
abbrev pub invariant-loop-left : goal.invariant-loop-left
invariant-loop-left l =
    (l.r ≤ 32) × (l.bits < 2 ^ (32 - l.r)) × (l.left ≡ length (chosen is_preserved (digits (32 - l.r) l.r l.bits)))
    × (plan_of (map (moved l.k) (saved l.fn.mask)) ≡ all_pushed (moved l.k) l.p (digits (32 - l.r) l.r l.bits))

abbrev pub decreases-loop-left : goal.decreases-loop-left
decreases-loop-left l = 32 - l.r
