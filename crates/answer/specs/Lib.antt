-- the text that `deckwords` prints of a deck file
pub mod Answer
