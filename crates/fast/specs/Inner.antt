-- which lines the fast path takes, and the state that it leaves
pub mod Fast
-- an order as one number
pub mod Packed
-- the fields of a line as one number
pub mod Fields
-- orders of instructions alone
pub mod Plain
