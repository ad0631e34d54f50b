-- a word in bytes
pub mod Text
-- how the listing is made
pub mod Listing
