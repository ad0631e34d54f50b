-- what a line says, or why it is refused
pub mod Judge
-- the same over the code's forms, and what only private functions promise
pub mod Inner
