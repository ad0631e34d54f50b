pub mod Fields
pub mod Values
pub mod Said
pub mod Whole
pub mod Apart
pub mod Judged
pub mod Written
pub mod Emitting
