-- the answer for an instruction: its word, or a refusal's number
pub mod Answer
-- a base instruction as the code has it
pub mod Instr
-- the rows of the table of base words
pub mod Table
-- a signed number as the code has it
pub mod Sign
-- what only private functions promise
pub mod Inner
