-- Constants of a deck (document 01, "What changes shape" and "Count"): bits, numbers and labels.
use Rattle.std.specs.Prelude.{ℕ, ◌+◌}
use Rattle.std.specs.Float.Ieee.{to_bits}
use Rattle.std.specs.Float.{binary64}
use Rattle.ast.specs.declared.Constant.{Constant}
use Rattle.ast.specs.declared.Constant.TheVariants.{Float, Bits}

-- a NaN is 0x7ff8000000000000
abbrev pub constant_bits : Constant → ℕ
constant_bits (Float x) = to_bits binary64 x
constant_bits (Bits b) = b

-- "at most 1,008"
abbrev pub constant_limit : ℕ
constant_limit = 1008

-- constant k stands at label 1,024 + k
abbrev pub constant_label : ℕ → ℕ
constant_label k = 1024 + k
