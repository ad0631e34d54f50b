-- What was read of standard input.
use Rattle.std.specs.Prelude.{ℕ, ◌≤◌, ◌<◌, Result, Ok, Err}

-- no more bytes than there was room for; where there was no room nothing was tried, so nothing failed
abbrev pub Within : {E : Type 0} → (room : ℕ) → Result ℕ E → Type 0
Within room (Ok n) = n ≤ room
Within room (Err e) = 0 < room
