-- the answer's instruction
pub mod Decoded
-- document 02's laws of words and instructions
pub mod Laws
-- what only private functions promise
pub mod Inner
