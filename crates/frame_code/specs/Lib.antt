-- the items of prologues, saves, reloads and epilogues
pub mod Items
-- what is refused of the counts
pub mod Fault
-- how many words the two frame ends run
pub mod Steps
-- what only private functions promise
pub mod Inner
