use mathlib.Core.Path.{ap, ◌∙◌}
use Rattle.stale.specs.Inner.Scan.{set_line}
use Rattle.stale.proofs.Scan.{behind_line_1}
use Rattle.stale.proofs.set_lines.Goals as goal

pub returns : goal.returns
returns c =
    λ l h.
    let r = c.lines_from.ensures l h in
    (r.0 ∙ ap (set_line l) (behind_line_1 c.args.file.now c.line_end.result c.line_end.ensures), r.1)
