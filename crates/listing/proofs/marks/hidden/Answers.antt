use mathlib.Core.Path.{sym, ap, ◌∙◌}
use Rattle.listing.specs.Inner.Marks.{hidden_by}
use Rattle.listing.specs.declared.View.{View}
use Rattle.listing.proofs.Noted.{nothing_hidden, bits_hidden}
use Rattle.listing.proofs.marks.hidden.Goals as goal

pub returns-in-Maintainer : goal.returns-in-Maintainer
returns-in-Maintainer c =
    let f = c.args.file.now in
    λ k. nothing_hidden f k ∙ ap (λ (v : View). hidden_by v f k) (sym c.in-Maintainer.is)

pub returns-in-Attendant : goal.returns-in-Attendant
returns-in-Attendant c =
    let f = c.args.file.now in
    λ k. bits_hidden f c.line_end.result c.marks_from.result c.line_end.ensures c.marks_from.ensures k ∙ ap (λ (v : View). hidden_by v f k) (sym c.in-Attendant.is)
