use mathlib.Core.Path.{sym, ◌∙◌}
use mathlib.Core.List.{[]}
use Rattle.ast.specs.declared.Frame.TheVariants.{Fast, Indirect}
use Rattle.frames.proofs.Wholes.{start_targets, prologue_alone, prologue_goes}
use Rattle.frames.proofs.prologue_goes.Goals as goal

pub returns-in-Fast : goal.returns-in-Fast
returns-in-Fast c = let H = c.args.head in prologue_goes H Fast [] c.in-Fast.is (prologue_alone H)

pub returns-in-Indirect : goal.returns-in-Indirect
returns-in-Indirect c = let H = c.args.head in prologue_goes H Indirect _ c.in-Indirect.is (c.start_goes.ensures ∙ sym (start_targets H))
