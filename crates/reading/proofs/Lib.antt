pub mod Examples
pub mod Decks
pub mod One
pub mod Start
pub mod Closed
