use native.Mathlib.Omega.{arith}
use Rattle.answer.proofs.Reasoned.{reason_said}
use Rattle.answer.proofs.reason_text.Goals as goal

pub returns-in-Err : goal.returns-in-Err
returns-in-Err c =
    let a = c.args in
    reason_said a.answer a.out.now _ _ _ _ c.in-Err.is c.number.ensures (omega (arith, c.number.type_inv)) (omega arith) c.reason_line.ensures
