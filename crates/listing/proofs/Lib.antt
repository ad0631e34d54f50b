pub mod Listed
pub mod Noted
pub mod Marked
pub mod Deck
pub mod Veiled
pub mod Unseen
pub mod Examples
