-- when the encoder's answer is the expected one
pub mod Row
