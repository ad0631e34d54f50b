-- the reader behind a line
pub mod Reader
