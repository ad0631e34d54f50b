-- steps of the state, and room
pub mod State
