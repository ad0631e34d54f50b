pub mod Memory
pub mod Own
pub mod Scan
pub mod Texts
pub mod Said
pub mod Deck
