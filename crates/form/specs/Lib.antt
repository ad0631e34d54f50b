-- what a line says, and its text
pub mod Text
-- which bytes say it: a statement
pub mod Grammar
-- what a line says as 64 bits hold it
pub mod Form
-- the reader, and what only private functions and the fast path's promise
pub mod Inner
