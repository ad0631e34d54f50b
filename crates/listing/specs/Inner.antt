-- the listing of an answer
pub mod Listing
-- which constants are hidden
pub mod Marks
