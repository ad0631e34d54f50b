-- accesses by what they do, and a plan placed
pub mod Plans
