use Rattle.listing.proofs.Deck.{maintained}
use Rattle.listing.proofs.deck_listing.Goals as goal

pub returns : goal.returns
returns c =
    let a = c.args in
    rw (← (maintained a.file.now)) c.deck_view.ensures
