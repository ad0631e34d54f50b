-- A signed number as the code has it: n, or -1 - n.
use Rattle.std.specs.Prelude.{ℤ, pos, negsuc}
use Rattle.encoder.specs.declared.Sign.{Sign}
use Rattle.encoder.specs.declared.Sign.TheVariants.{NonNeg, Neg}

abbrev pub sign_of : ℤ → Sign
sign_of (pos n) = NonNeg n
sign_of (negsuc n) = Neg n
