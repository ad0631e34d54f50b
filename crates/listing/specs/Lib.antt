-- the listing of code and of a deck file
pub mod Listing
-- that an accepted file has no foreign word
pub mod Never
-- the two views of a deck file's listing
pub mod Views
-- THE STATEMENT of what the attendant can't see
pub mod Unseen
-- what only private functions promise
pub mod Inner
