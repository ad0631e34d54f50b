use mathlib.Core.Path.{◌∙◌}
use Rattle.frame_code.specs.Items.{save, saves}
use Rattle.frame_code.proofs.Listed.{save_list_valid}
use Rattle.frames.proofs.Pushes.{used_put}
use Rattle.frames.proofs.save_used_registers.Goals as goal

pub returns-clause-whole : goal.returns-clause-whole
unfolding saves
returns-clause-whole c = c.place.ensures.whole ∙ used_put save c.args.mask _ _ c.used_plan.ensures (save_list_valid c.args.mask)
