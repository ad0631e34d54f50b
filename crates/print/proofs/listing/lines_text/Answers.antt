use Rattle.print.specs.Text.{words_of}
use Rattle.print.proofs.Listings.{all_shown}
use Rattle.print.proofs.listing.lines_text.Goals as goal

pub returns : goal.returns
returns c =
    let a = c.args in
    rw (← all_shown a.constants 0 (words_of a.code.now)) c.view_text.ensures
