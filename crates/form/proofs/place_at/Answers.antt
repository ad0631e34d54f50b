use Rattle.form.proofs.Shapes.{no_place, place_is}
use Rattle.text.proofs.Answers.{next_none, next_is}
use Rattle.form.proofs.place_at.Goals as goal

pub returns-then-s-a : goal.returns-then-s-a
returns-then-s-a c = rw (← (no_place _ _ c.if-s-a.true), next_none _ _ c.if-s-a.true)

pub returns : goal.returns
returns c =
    let a = c.args in
    let h = c.if-s-a.false in
    rw (c.read_place.ensures, place_is a.s.now a.a _ c.field_end-e.ensures.0 h, next_is a.s.now a.a h, ← c.field_end-e.ensures.0)
