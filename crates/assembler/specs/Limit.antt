-- Document 01, "What changes shape": only 65,536 bytes of a buffer count; labels are numbers to 2,038; at most 4,096 jumps.
use Rattle.std.specs.Prelude.{ℕ}

abbrev pub room_limit : ℕ
room_limit = 65536

abbrev pub label_limit : ℕ
label_limit = 2039

abbrev pub jump_limit : ℕ
jump_limit = 4096
