use Prim.Native.Nat.{ℕ}
use lib.ListN.{replicate, length-replicate}
use Rattle.stale.proofs.Deck.{is_within, deck_told}
use Rattle.stale.proofs.deck_labels.Goals as goal

pub answer_text-text-requires : goal.answer_text-text-requires
answer_text-text-requires c =
    is_within c.args.file.now (replicate 20480 0) (replicate 65536 0) (length-replicate {A = ℕ} 20480 0) (length-replicate {A = ℕ} 65536 0) c.routine_in-left.result _ _ _ c.routine_in-left.ensures

pub returns : goal.returns
returns c =
    let a = c.args in
    deck_told a.file.now (replicate 20480 0) (replicate 65536 0) (length-replicate {A = ℕ} 20480 0) (length-replicate {A = ℕ} 65536 0) c.routine_in-left.result _ _ _ c.routine_in-left.ensures a.out.now _ _ c.answer_text-text.ensures
