use Rattle.std.proofs.Common.{◌≡◌, ◌<◌, drop}
use Rattle.test_decks.specs.Inner.Bytes.{hash_of}
use Rattle.test_decks.proofs.judge.hash.Given as goal

abbrev pub invariant-loop-b : goal.invariant-loop-b
invariant-loop-b l = (l.h < 18014398509481951) × (hash_of 0 l.s ≡ hash_of l.h (drop l.b-index l.s))
