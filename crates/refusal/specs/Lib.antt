-- document 01's numbers of refusal
pub mod Number
-- what a function answers: a value, or a refusal with its number and place
pub mod Answer
