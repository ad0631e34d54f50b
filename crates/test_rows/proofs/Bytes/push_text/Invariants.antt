use Rattle.std.proofs.Common.{◌≡◌, ◌++◌, take, map}
use Rattle.test_rows.specs.Bytes.{bytes_of, plain_of}
use Rattle.test_rows.proofs.Bytes.push_text.Given as goal

abbrev pub invariant-loop-b : goal.invariant-loop-b
invariant-loop-b g l =
    bytes_of l.self.memory l.self.size
    ≡ take g.row.N (bytes_of l.initial.self.memory l.initial.self.size ++ map plain_of (take l.b-index l.s))
