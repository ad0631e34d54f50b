use mathlib.Core.Path.{◌≡◌, sym, ◌∙◌}
use mathlib.Core.List.{◌∷◌}
use borrow.Author.Rules.{rules}
use Rattle.assembler.proofs.Tests.{twice_set, twice_again}
use Rattle.assembler.proofs.taken.Goals as goal
use Rattle.assembler.proofs.taken.Goals.{then-is_set-via-then-is_set, then-is_set-via-else-is_set+then-contains}

pub returns-then-is_set : goal.returns-then-is_set
returns-then-is_set c =
    let m = c.args.labels.now in
    let l = c.in-Some.l.now in
    let behind = c.in-Some.behind.now in
    let e : c.loop-l.rest.now ≡ l ∷ behind = search rules in
    elim c.then-is_set.branch [
      | then-is_set-via-then-is_set w ↦ sym (c.loop-l.invariant ∙ twice_set m _ l behind e (rw c.entry.ensures at (sym c.is_set.ensures ∙ w.if-is_set.true)))
      | then-is_set-via-else-is_set+then-contains w ↦ sym (c.loop-l.invariant ∙ twice_again m _ l behind e (sym w.contains.ensures.value ∙ w.if-contains.true))
    ]
