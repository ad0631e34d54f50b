-- the instructions of each access
pub mod Code
-- what is refused
pub mod Fault
-- a machine at the words, and behind them
pub mod Stands
-- what each access does on the machine; the table a to j
pub mod Claims
-- words collected into a plan
pub mod Plans
-- what only private functions promise
pub mod Inner
-- what each access does to the assembler's state
pub mod Accessed
