-- the routine's words, from the lines
pub mod Layout
-- what a call that comes back has done
pub mod Returned
