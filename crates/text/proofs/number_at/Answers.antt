use native.Mathlib.Omega.{arith}
use Prim.Native.Nat.{◌+◌, ◌≤◌}
use lib.ListN.{length}
use Rattle.text.proofs.Answers.{no_field, next_none}
use Rattle.text.proofs.Once.{stop_within, field_read}
use Rattle.text.proofs.number_at.Goals as goal

pub returns-then-s-a : goal.returns-then-s-a
returns-then-s-a c = rw (no_field _ _ c.if-s-a.true, next_none _ _ c.if-s-a.true)

pub overflow_add-result : goal.overflow_add-result
overflow_add-result c =
    let within : c.args.a + c.read_number-numeral.result.1 ≤ length c.args.s.now = stop_within c.args.s.now c.args.a c.if-s-a.false c.read_number-numeral.result c.read_number-numeral.ensures in
    let h = within in record { fits = omega arith }

pub overflow_add-result-2 : goal.overflow_add-result-2
overflow_add-result-2 c =
    let within : c.args.a + c.read_number-numeral.result.1 ≤ length c.args.s.now = stop_within c.args.s.now c.args.a c.if-s-a.false c.read_number-numeral.result c.read_number-numeral.ensures in
    let h = within in record { fits = omega arith }

pub returns : goal.returns
returns c = field_read _ _ c.if-s-a.false c.read_number-numeral.result c.read_number-numeral.ensures
