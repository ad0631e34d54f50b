use native.Mathlib.Omega.{arith}
use Rattle.stale.proofs.Deck.{refusal_said}
use Rattle.stale.proofs.answer_text.Goals as goal

pub returns-in-Err : goal.returns-in-Err
returns-in-Err c =
    let a = c.args in
    refusal_said a.file.now a.labels.now a.asm a.answer _ _ c.in-Err.is c.number.ensures (omega (arith, c.number.type_inv)) (omega arith) a.out.now _ _ c.refusal_line.ensures
