use mathlib.Core.Path.{◌∙◌}
use Rattle.text.proofs.Once.{end_is}
use Rattle.text.proofs.malformed.Goals as goal

pub returns : goal.returns
returns c = rw (c.field_end_bytewise.ensures.0 ∙ end_is _ _ c.requires)
