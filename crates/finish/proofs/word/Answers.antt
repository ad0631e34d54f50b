use mathlib.Core.Path.{◌∙◌}
use Rattle.encoder.proofs.Answers.{ok_word}
use Rattle.finish.proofs.word.Goals as goal

pub returns : goal.returns
returns c = λ v. c.unwrap_or.ensures ∙ ok_word _ _ c.jump_encoded.ensures v
