use Rattle.std.proofs.Common.{◌≡◌, ℕ, ◌<◌, get_or}
use Rattle.finish.proofs.is_blank.Given as goal

abbrev pub invariant-loop-e : goal.invariant-loop-e
invariant-loop-e l = l.all ≡ 0 → (k : ℕ) → k < l.e-index → get_or l.whole k 0 ≡ 0
