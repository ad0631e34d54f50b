pub mod Laws
pub mod Forms
pub mod Shown
pub mod Attendant
pub mod Limits
