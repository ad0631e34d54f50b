use mathlib.Core.Path.{sym, ◌∙◌}
use native.Mathlib.Omega.{arith}
use Rattle.encoder.specs.Sign.{sign_of}
use Rattle.encoder.proofs.Signs.{handed}
use Rattle.print.proofs.Operands.{nonneg, neg}
use Rattle.print.proofs.listing.value.Goals as goal

pub returns-in-NonNeg : goal.returns-in-NonNeg
returns-in-NonNeg c =
    nonneg c.args.z _ (sym (handed sign_of _ c.ranges.z c.split-s.ensures) ∙ c.in-NonNeg.is) (omega (arith, c.in-NonNeg.ensures))

pub returns-in-Neg : goal.returns-in-Neg
returns-in-Neg c =
    neg c.args.z _ (sym (handed sign_of _ c.ranges.z c.split-s.ensures) ∙ c.in-Neg.is)
