use Prim.Native.Nat.{ℕ}
use lib.ListN.{replicate, length-replicate}
use Rattle.answer.proofs.Listed.{deck_told}
use Rattle.answer.proofs.deck_text.Goals as goal

pub returns : goal.returns
returns c =
    let a = c.args in
    deck_told a.file.now (replicate 65536 0) _ (length-replicate {A = ℕ} 65536 0) _ _ a.out.now _ c.routine-a.auto.buf c.routine-a.ensures c.answer_text.ensures
