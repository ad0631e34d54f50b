-- the hash of bytes
pub mod Bytes
