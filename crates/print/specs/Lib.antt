-- the lines that are printed, and a text in a lent buffer
pub mod Text
-- one piece of a text behind the other
pub mod Writer
-- the listing's lines
pub mod Listing
-- a refusal in words
pub mod Reason
-- what only private functions promise
pub mod Inner
