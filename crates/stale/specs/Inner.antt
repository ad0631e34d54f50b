-- the line that sets a label
pub mod Scan
-- the text of a list
pub mod Text
