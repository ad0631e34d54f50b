use mathlib.Core.Path.{◌∙◌}
use Rattle.encoder.proofs.Answers.{ok_valid}
use Rattle.finish.proofs.reaches.Goals as goal

pub returns : goal.returns
returns c = c.is_ok.ensures.value ∙ ok_valid _ _ c.jump_encoded.ensures
