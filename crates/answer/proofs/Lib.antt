pub mod Listed
pub mod Reasoned
