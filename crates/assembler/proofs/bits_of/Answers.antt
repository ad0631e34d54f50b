use mathlib.Core.Path.{sym, ap, ◌∙◌}
use lib.Ieee.{to_bits, binary64}
use Rattle.ast.specs.Constant.{constant_bits}
use Rattle.assembler.proofs.Tests.{nan_of}
use Rattle.assembler.proofs.bits_of.Goals as goal

pub returns-then-is_nan : goal.returns-then-is_nan
unfolding to_bits
returns-then-is_nan c = sym (ap constant_bits c.in-Float.is ∙ ap (to_bits binary64) (nan_of c.in-Float.x (sym c.is_nan.ensures.value ∙ c.if-is_nan.true)))
