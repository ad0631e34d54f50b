-- demand 3: what a call does where the routine's bytes stand; and that they are instructions
pub mod Claim
-- what holds of all refused files
pub mod Refusals
-- what follows
pub mod Follows
-- small files, worked out by hand
pub mod Examples
