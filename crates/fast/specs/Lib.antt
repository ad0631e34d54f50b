-- what the fast path's functions promise: nothing that a reader of the demands needs
pub mod Inner
