pub mod Bools
pub mod Tested
pub mod Each
