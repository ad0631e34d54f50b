-- tests over lists
pub mod Tests
