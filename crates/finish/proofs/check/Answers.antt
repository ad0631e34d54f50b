use Rattle.std.proofs.Common.{sym, ◌∙◌}
use Rattle.assembler.specs.State.{State, state}
use Rattle.finish.proofs.Ends.{ends_closed, ends_record, ends_label}
use Rattle.finish.proofs.check.Goals as goal

pub returns-then-asm : goal.returns-then-asm
returns-then-asm c =
    let s : State = state c.args.asm c.args.labels.now c.args.jumps.now c.args.buf.now in
    rw c.at_none.ensures (ends_closed s c.if-asm.true)

pub returns-then-not-is_sound : goal.returns-then-not-is_sound
returns-then-not-is_sound c =
    let s : State = state c.args.asm c.args.labels.now c.args.jumps.now c.args.buf.now in
    rw c.at_none-then-not-is_sound.ensures (ends_record s c.if-asm.false (sym c.is_sound.ensures.0 ∙ c.if-not-is_sound.true))

pub returns-then-not-labels_good : goal.returns-then-not-labels_good
returns-then-not-labels_good c =
    let s : State = state c.args.asm c.args.labels.now c.args.jumps.now c.args.buf.now in
    rw c.at_none-then-not-labels_good.ensures
    (ends_label s c.if-asm.false (sym c.is_sound.ensures.0 ∙ c.if-not-is_sound.false) (sym c.labels_good.ensures ∙ c.if-not-labels_good.true))

pub check_jumps-requires : goal.check_jumps-requires
check_jumps-requires c =
    let b = c.is_sound.ensures.1 c.if-not-is_sound.false in
    record {
      unclosed = c.if-asm.false;
      well = sym c.is_sound.ensures.0 ∙ c.if-not-is_sound.false;
      within = b.0;
      near = b.1;
      few = b.2;
      good = sym c.labels_good.ensures ∙ c.if-not-labels_good.false;
    }
