-- a quoted text as bytes
pub mod Ascii
-- numbers as bytes
pub mod Digits
-- fields parted by commas
pub mod Fields
-- a file as lines
pub mod Lines
-- what the readers answer
pub mod Readers
-- what the number reader answers, and that no byte behind the comma alters it
pub mod Once
-- bytes as one number
pub mod Bytes
-- what only private functions and the fast path's promise
pub mod Inner
