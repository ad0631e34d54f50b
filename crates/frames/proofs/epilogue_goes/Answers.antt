use mathlib.Core.Path.{sym, ◌∙◌}
use mathlib.Core.List.{[]}
use Rattle.ast.specs.declared.Frame.TheVariants.{Fast, Indirect}
use Rattle.frames.proofs.Wholes.{end_targets, epilogue_alone, epilogue_goes}
use Rattle.frames.proofs.epilogue_goes.Goals as goal

pub returns-in-Fast : goal.returns-in-Fast
returns-in-Fast c = let H = c.args.head in epilogue_goes H Fast [] c.in-Fast.is (epilogue_alone H)

pub returns-in-Indirect : goal.returns-in-Indirect
returns-in-Indirect c = let H = c.args.head in epilogue_goes H Indirect _ c.in-Indirect.is (c.end_goes.ensures ∙ sym (end_targets H))
