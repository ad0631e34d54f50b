pub mod Validity
pub mod Laws
pub mod Encodings
pub mod Words
pub mod HiLo
