-- the instructions of each order
pub mod Code
-- what is refused of an order's operands
pub mod Fault
-- what an order does on the machine: the claim of demand 2
pub mod Does
-- all or nothing; and in a deck with a line 1
pub mod Emitted
-- what the writers of instructions leave
pub mod Wrote
-- what only private functions promise
pub mod Inner
