-- parts of an indirect prologue; copies by the loop
pub mod Whole
