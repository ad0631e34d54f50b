use native.Mathlib.Omega.{arith}
use Rattle.answer.proofs.Listed.{words_told, all_told, refusal_told}
use Rattle.answer.proofs.answer_text.Goals as goal

pub returns-then-n-code : goal.returns-then-n-code
returns-then-n-code c =
    let a = c.args in
    all_told a.answer a.code.now a.out.now _ _ _ c.in-Ok.is (omega arith) c.words_text.ensures

pub returns-else-n-code : goal.returns-else-n-code
returns-else-n-code c =
    let a = c.args in
    words_told a.answer a.code.now a.out.now _ _ _ c.in-Ok.is c.words_text-in-Ok.ensures

pub returns-in-Err : goal.returns-in-Err
returns-in-Err c =
    let a = c.args in
    refusal_told a.answer a.code.now a.out.now _ _ _ _ c.in-Err.is c.number.ensures (omega (arith, c.number.type_inv)) (omega arith) c.refusal_line.ensures
