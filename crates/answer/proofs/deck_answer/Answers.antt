use Prim.Native.Nat.{ℕ}
use lib.ListN.{replicate, length-replicate}
use Rattle.answer.proofs.Listed.{deck_told}
use Rattle.answer.proofs.Reasoned.{deck_said}
use Rattle.answer.proofs.deck_answer.Goals as goal

pub returns : goal.returns
returns c =
    let a = c.args in
    let full = length-replicate {A = ℕ} 65536 0 in
    let d = deck_told a.file.now (replicate 65536 0) _ full _ _ a.out.now _ c.routine-a.auto.buf c.routine-a.ensures c.answer_text-text.ensures in
    let f = deck_said a.file.now (replicate 65536 0) _ _ _ a.err.now _ full c.routine-a.ensures c.reason_text-reason.ensures in
    (d.0, f.0, d.1, f.1)
