use Rattle.std.proofs.Common.{◌≡◌}
use Rattle.base.specs.Tests.{all}
use Rattle.finish.specs.Finish.{label_good}
use Rattle.finish.proofs.labels_good.Given as goal

abbrev pub invariant-loop-block : goal.invariant-loop-block
invariant-loop-block l = all (label_good l.len) l.labels ≡ all (label_good l.len) l.block-iterator.rest.now
