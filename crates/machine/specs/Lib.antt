-- 64-bit numbers, a function changed at one place, bytes of memory
pub mod Word
-- float arithmetic: any functions of rounding and bits
pub mod Floats
-- pc, registers, float registers, rounding mode, memory
pub mod State
-- what each instruction does
pub mod Effect
-- steps and runs, and code in memory
pub mod Step
-- what a run of words comes to
pub mod Ends
