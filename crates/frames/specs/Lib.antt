-- a whole prologue or epilogue by its counts
pub mod Whole
-- what only private functions promise
pub mod Inner
