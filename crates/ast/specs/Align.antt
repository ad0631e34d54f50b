-- Document 01, "align_stack".
use Rattle.std.specs.Prelude.{ℕ, ◌+◌, ◌-◌, ◌%◌}

-- the next multiple of 16 above n: 0 gives 16, and 16 gives 32
abbrev pub align16 : ℕ → ℕ
align16 n = n + 16 - n % 16
