-- constants by their lines' places, and parts of the run
pub mod Places
