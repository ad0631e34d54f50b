mod Floats
pub mod Forms
