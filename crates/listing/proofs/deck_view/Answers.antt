use Prim.Native.Nat.{ℕ}
use lib.ListN.{replicate, length-replicate}
use Rattle.listing.proofs.Deck.{deck_told}
use Rattle.listing.proofs.deck_view.Goals as goal

pub returns : goal.returns
returns c =
    let a = c.args in
    deck_told a.view a.file.now (replicate 65536 0) _ (length-replicate {A = ℕ} 65536 0) _ _ a.out.now _ c.routine-answer.auto.buf c.routine-answer.ensures c.answer_text-text.ensures
