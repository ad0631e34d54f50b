-- what each order means
pub mod Meaning
-- a line from line 2 on
pub mod Line
-- a file as it is read: line 1 and the lines
pub mod Program
-- the plain reading, step by step
pub mod Plain
-- sizes of a frame
pub mod Size
-- start and end of a call's reading, and the terms of a call
pub mod Terms
