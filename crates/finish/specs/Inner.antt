-- nothing is wrong with any jump
pub mod Finish
