-- all jumps are looked at, and only then written
pub mod Finish
-- the law: the numbers of jumps add up to the jump count
pub mod Counted
-- what only private functions promise
pub mod Inner
