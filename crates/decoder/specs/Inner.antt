-- how the operation is found
pub mod Operation
