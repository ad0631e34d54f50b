pub mod Tests
pub mod Tags
pub mod Checks
pub mod Writes
pub mod Numbers
pub mod Items
pub mod Steps
pub mod Plans
