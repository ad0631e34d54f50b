use Rattle.std.proofs.Common.{sym, ap, ◌∙◌, Bool, cond, get_or, arith}
use Rattle.finish.specs.Inner.Finish.{jump_of}
use Rattle.finish.proofs.Wrong.{good, at_first, place_small, wrong_bad, wrong_unset, wrong_far}
use Rattle.finish.proofs.fault.Goals as goal

pub returns-then-not-is_good_jump : goal.returns-then-not-is_good_jump
returns-then-not-is_good_jump c = wrong_bad _ _ _ (sym c.is_good_jump.ensures ∙ c.if-not-is_good_jump.true)

pub returns-then-is_unset : goal.returns-then-is_unset
returns-then-is_unset c =
    wrong_unset c.args.labels.now c.args.len (jump_of c.args.j) (sym c.is_good_jump.ensures ∙ c.if-not-is_good_jump.false) (sym c.is_unset.ensures ∙ c.if-is_unset.true)

pub reaches-requires : goal.reaches-requires
reaches-requires c =
    let a = c.args in
    let g = good a.len (jump_of a.j) (sym c.is_good_jump.ensures ∙ c.if-not-is_good_jump.false) in
    let p = place_small a.len (get_or a.labels.now a.j.label 0) (at_first a.len a.labels.now c.requires.1 a.j.label g.label) in
    (omega (arith, p, c.label_place.ensures), omega (arith, g.inside))

-- the number by what `reaches` answers
pub returns-then-reaches : goal.returns-then-reaches
returns-then-reaches c =
    let a = c.args in
    let e = sym c.is_good_jump.ensures ∙ c.if-not-is_good_jump.false in
    let g = good a.len (jump_of a.j) e in
    ap (λ (t : Bool). cond t 0 6) (sym c.if-reaches.true)
    ∙ wrong_far a.labels.now a.len (jump_of a.j) e (sym c.is_unset.ensures ∙ c.if-is_unset.false) g.kind g.register _ _ c.label_place.ensures c.reaches.ensures

pub returns-else-reaches : goal.returns-else-reaches
returns-else-reaches c =
    let a = c.args in
    let e = sym c.is_good_jump.ensures ∙ c.if-not-is_good_jump.false in
    let g = good a.len (jump_of a.j) e in
    ap (λ (t : Bool). cond t 0 6) (sym c.if-reaches.false)
    ∙ wrong_far a.labels.now a.len (jump_of a.j) e (sym c.is_unset.ensures ∙ c.if-is_unset.false) g.kind g.register _ _ c.label_place.ensures c.reaches.ensures
