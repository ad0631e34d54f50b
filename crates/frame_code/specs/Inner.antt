-- the copies of states and observations by one choice
pub mod Copies
