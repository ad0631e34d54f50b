-- answers as the numbers that a caller in C gets
pub mod Numbers
-- what a call tells an attendant
pub mod Attendant
-- one order, one constant, finishing and unused labels, on a record of three numbers
pub mod Single
-- what only private functions promise
pub mod Inner
