use Rattle.std.proofs.Common.{◌≤◌, ◌<◌, sym, ◌∙◌}
use Rattle.assembler.specs.State.{State, state}
use Rattle.finish.specs.Finish.{first_with}
use Rattle.finish.specs.Inner.Finish.{jump_of}
use Rattle.finish.proofs.First.{found, missing}
use Rattle.finish.proofs.Ends.{ends_value, ends_unset, ends_far, all_right}
use Rattle.finish.proofs.check_jumps.Goals as goal

pub returns-then-is_some : goal.returns-then-is_some
unfolding first_with
returns-then-is_some c =
    let s : State = state c.args.asm c.args.labels.now c.args.jumps.now c.args.buf.now in
    let h : first_with 2 s < s.asm.jumps = found c.first_jump.result _ _ c.first_jump.ensures (sym c.is_some.ensures ∙ c.if-is_some.true) in
    rw c.at_none.ensures (ends_value s c.requires h)

pub returns-in-Some : goal.returns-in-Some
unfolding first_with
returns-in-Some c =
    let s : State = state c.args.asm c.args.labels.now c.args.jumps.now c.args.buf.now in
    let h : s.asm.jumps ≤ first_with 2 s = missing c.first_jump.result _ _ c.first_jump.ensures (sym c.is_some.ensures ∙ c.if-is_some.false) in
    rw c.about.ensures (ends_unset s c.requires c.in-Some.i (jump_of c.jump_at.result) c.jump_at.result.tag c.jump_at.ensures.0 c.jump_at.ensures.1 h c.in-Some.ensures)

pub returns-in-Some-first_jump : goal.returns-in-Some-first_jump
unfolding first_with
returns-in-Some-first_jump c =
    let s : State = state c.args.asm c.args.labels.now c.args.jumps.now c.args.buf.now in
    let h : s.asm.jumps ≤ first_with 2 s = missing c.first_jump.result _ _ c.first_jump.ensures (sym c.is_some.ensures ∙ c.if-is_some.false) in
    let j = c.jump_at-in-Some-first_jump in
    rw c.about-in-Some-first_jump.ensures
    (ends_far s c.requires c.in-Some-first_jump.i (jump_of j.result) j.result.tag j.ensures.0 j.ensures.1 h c.in_default.ensures c.in-Some-first_jump.ensures)

pub returns : goal.returns
unfolding first_with
returns c =
    let s : State = state c.args.asm c.args.labels.now c.args.jumps.now c.args.buf.now in
    let h : s.asm.jumps ≤ first_with 2 s = missing c.first_jump.result _ _ c.first_jump.ensures (sym c.is_some.ensures ∙ c.if-is_some.false) in
    all_right s c.requires h c.in_default.ensures c.in_default-first_jump.ensures
