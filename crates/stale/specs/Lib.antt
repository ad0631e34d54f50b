-- what `decklabels` prints of a deck file
pub mod Deck
-- what the list says of a deck file
pub mod Laws
-- what only private functions promise
pub mod Inner
