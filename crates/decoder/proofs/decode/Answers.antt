use mathlib.Core.Path.{◌≡◌}
use native.Mathlib.Omega.{arith}
use Rattle.decoder.proofs.Found.{same_word, another_word, no_word_at_all}
use Rattle.decoder.proofs.decode.Goals as goal

pub returns-in-Ok : goal.returns-in-Ok
returns-in-Ok c = (same_word _ _ _ c.candidate-i.ensures.0 c.operation.ensures _ c.in-Ok.ensures (omega arith), c.candidate-i.ensures.1)

pub returns-in_default : goal.returns-in_default
returns-in_default c = (another_word _ _ _ c.candidate-i.ensures.0 c.operation.ensures _ c.in-Ok.ensures (λ (e : c.in-Ok.w ≡ c.args.word). omega arith), tt)

pub returns-in_default-2 : goal.returns-in_default-2
returns-in_default-2 c = (no_word_at_all _ _ _ c.candidate-i.ensures.0 c.operation.ensures _ _ c.in_default.ensures, tt)
