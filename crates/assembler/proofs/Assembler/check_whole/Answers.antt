use mathlib.Core.Path.{sym, ap, ◌∙◌}
use Rattle.std.specs.Option.{option_map}
use Rattle.base.proofs.Bools.{both}
use Rattle.assembler.specs.State.{before}
use Rattle.assembler.specs.Plan.{refusal_of, fault_number}
use Rattle.assembler.proofs.Plans.{none_asked}
use Rattle.assembler.proofs.Checks.{ranked_none, fits_room}
use Rattle.assembler.proofs.Steps.{settled_by, settled_yes}
use Rattle.assembler.proofs.Assembler.check_whole.Goals as goal

pub returns-in-None-clause-whole : goal.returns-in-None-clause-whole
returns-in-None-clause-whole c =
    let s = before c.args.self.now in
    rw (← c.refusal.ensures, c.in-None.is) (sym (settled_yes s s))

pub returns-in-None-clause-room : goal.returns-in-None-clause-room
returns-in-None-clause-room c =
    let r = ranked_none _ _ _ _ _ (sym c.refusal.ensures ∙ ap fault_number c.in-None.is) in
    let p = both _ _ r.1 in
    (fits_room _ _ _ _ p.1, p.0)

pub returns-in-None-clause-labels : goal.returns-in-None-clause-labels
returns-in-None-clause-labels c =
    let r = ranked_none _ _ _ _ _ (sym c.refusal.ensures ∙ ap fault_number c.in-None.is) in
    none_asked (option_map refusal_of c.args.fault) c.args.sets.now r.0

pub returns-in-Some-clause-whole : goal.returns-in-Some-clause-whole
returns-in-Some-clause-whole c =
    let s = before c.args.self.now in
    settled_by c.in-Some.why _ s s (sym (ap fault_number c.in-Some.is) ∙ c.refusal.ensures)
