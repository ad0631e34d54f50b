use Rattle.std.proofs.Common.{rules, sym, ◌∙◌, ap}
use Rattle.assembler.specs.State.{before}
use Rattle.routine.specs.Inner.Places.{constants_at}
use Rattle.routine.proofs.Bounds.{put_bound}
use Rattle.routine.proofs.Onward.{is_done, no_padding, no_constants, all_left}
use Rattle.routine.proofs.Placed.{places_length}
use Rattle.routine.proofs.leave.Goals as goal

pub returns-in_err-on_line-2-clause-whole : goal.returns-in_err-on_line-2-clause-whole
returns-in_err-on_line-2-clause-whole c =
    let a = c.args in
    let cs = constants_at a.file.now a.places.now in
    let e = no_padding a.head a.line cs (before a.asm.now) _ _ _ (c.unwind.ensures.whole cs) c.on_line.ensures _ c.in_ok-on_line.was _ (places_length a.file.now a.places.now) _ _ _ c.pad.ensures.whole c.on_line-2.ensures _ c.in_err-on_line-2.was in
    search (e, rules)

pub returns-in_err-on_line-3-clause-whole : goal.returns-in_err-on_line-3-clause-whole
returns-in_err-on_line-3-clause-whole c =
    let a = c.args in
    let cs = constants_at a.file.now a.places.now in
    let e = no_constants a.head a.line cs (before a.asm.now) _ _ _ (c.unwind.ensures.whole cs) c.on_line.ensures _ c.in_ok-on_line.was _ (places_length a.file.now a.places.now) _ _ _ c.pad.ensures.whole c.on_line-2.ensures
    _ c.in_ok-on_line-2.was _ _ _ c.constants.ensures.whole c.on_line-3.ensures _ c.in_err-on_line-3.was in
    search (e, rules)

pub close-requires : goal.close-requires
close-requires c =
    (put_bound 0 0 _ _ _ (rw (is_done c.pad.result _ c.args.line c.on_line-2.ensures _ c.in_ok-on_line-2.was) at c.pad.ensures.whole), c.requires)

pub returns-clause-whole : goal.returns-clause-whole
returns-clause-whole c =
    let a = c.args in
    let cs = constants_at a.file.now a.places.now in
    all_left a.head a.line cs (before a.asm.now) _ _ _ (c.unwind.ensures.whole cs) c.on_line.ensures _ c.in_ok-on_line.was _ (places_length a.file.now a.places.now) _ _ _ c.pad.ensures.whole c.on_line-2.ensures
    _ c.in_ok-on_line-2.was _ _ _ c.constants.ensures.whole c.on_line-3.ensures _ c.in_ok-on_line-3.was _ c.close.ensures.whole
