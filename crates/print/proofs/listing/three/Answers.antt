use native.Mathlib.Omega.{arith}
use lib.IntN.{ℤ}
use Rattle.text.specs.Digits.{integer_bytes}
use Rattle.encoder.proofs.Signs.{handed}
use Rattle.print.proofs.Operands.{three_text}
use Rattle.print.proofs.listing.three.Goals as goal

pub returns : goal.returns
returns c = ((omega arith, omega arith), three_text c.args.a c.args.b _ _ (omega arith) (omega arith) (handed (λ (z : ℤ). integer_bytes z) _ c.ranges.z c.value-v.ensures))
