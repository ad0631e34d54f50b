-- what a deck file is taken as, and what the routine promises
pub mod Routine
-- the routine's answer, as the code has it
pub mod Answer
-- the routine over lent memory, part by part
pub mod Run
-- the law: the numbers of jumps that a routine leaves add up
pub mod Counted
-- what only private functions promise
pub mod Inner
