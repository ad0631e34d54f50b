use mathlib.Core.Path.{◌∙◌}
use Prim.Native.Nat.{ℕ}
use borrow.Author.Rules.{rules}
use borrow.Author.Tests.{tests}
use Rattle.std.proofs.lemmas.Iterator.{YieldsList-from_slice}
use Rattle.std.proofs.lemmas.Iterator.Search.{all_from_yields_List}
use Rattle.assembler.specs.Put.{times, number_holds}
use Rattle.assembler.proofs.Tests.{list_all_is}
use Rattle.assembler.proofs.numbers_fit.Goals as goal

pub returns : goal.returns
returns c =
    let test = λ (l : ℕ). number_holds c.args.labels.now (times l c.args.goes.now) l in
    all_from_yields_List test _ _ _ c.all.ensures.ran (YieldsList-from_slice c.args.goes.now cc) (λ x b q k. search (rules, tests)) ∙ list_all_is test c.args.goes.now
