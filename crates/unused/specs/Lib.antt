-- the list of labels that nobody jumps to
pub mod Unused
-- what follows of the list
pub mod Laws
