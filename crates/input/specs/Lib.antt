-- what was read of standard input
pub mod Input
