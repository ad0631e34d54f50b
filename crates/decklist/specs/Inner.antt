-- what the arguments ask for
pub mod Arguments
