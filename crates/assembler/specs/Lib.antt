-- how much of a buffer counts, how many labels and jumps
pub mod Limit
-- what code is made of, piece by piece
pub mod Item
-- a constant's items; what `align_stack` answers
pub mod Constant
-- the six kinds of jump and their instructions
pub mod Jump
-- jumps in their memory
pub mod Memory
-- the words that finishing leaves
pub mod Resolved
-- bytes and words in a buffer
pub mod Bytes
-- an entry of label memory
pub mod Label
-- the record and the lent memory
pub mod State
-- all items are placed, or it is refused
pub mod Put
-- words collected before they are placed; faults
pub mod Plan
-- what only private functions promise
pub mod Inner
