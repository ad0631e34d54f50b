-- the bits of an immediate in its field
pub mod Field
