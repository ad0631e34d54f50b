pub mod Digits
pub mod Pushes
pub mod Parts
pub mod Ones
pub mod Sizes
pub mod Counts
pub mod Wholes
