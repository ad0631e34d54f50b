-- The instruction that the decoder answers, or none.
use Rattle.std.proofs.Math.Option as Math
use Rattle.isa.specs.Instr.{Instr}
use Rattle.std.specs.Prelude.{◌<◌, Option, Some, None}
use Rattle.encoder.specs.Instr.{instr_of}
use Rattle.encoder.specs.declared.Instr as Declared
use Rattle.encoder.specs.declared.Instr.TheVariants as Code

abbrev pub instr_answer : Option Declared.Instr → Math.Option Instr
instr_answer (Some i) = Math.some (instr_of i)
instr_answer None = Math.none

-- the operation's number is one of its shape's
abbrev pub Proper : Declared.Instr → Type 0
Proper (Code.R k d a b) = k < 16
Proper (Code.F k d a b m) = k < 4
Proper (Code.C k d a m) = k < 5
Proper (Code.M k d a) = k < 2
Proper (Code.R4 k d a b c m) = k < 4
Proper (Code.I k d a z) = k < 8
Proper (Code.Shift k d a z) = k < 3
Proper (Code.S k a b z) = k < 2
Proper (Code.B k a b z) = k < 6
Proper (Code.U k d z) = k < 2
Proper (Code.J d z) = Unit {0}

-- so that the answer is fixed
abbrev pub ProperAnswer : Option Declared.Instr → Type 0
ProperAnswer (Some i) = Proper i
ProperAnswer None = Unit {0}
