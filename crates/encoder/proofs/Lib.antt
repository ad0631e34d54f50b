pub mod Table
pub mod Signs
pub mod ReadBack
pub mod Fields
pub mod Answers
pub mod Values
