use native.Mathlib.Omega.{arith}
use Rattle.print.specs.Listing.{marked}
use Rattle.listing.specs.Inner.Marks.{hidden_by}
use Rattle.listing.proofs.Deck.{part_said, all_said, refusal_said}
use Rattle.listing.proofs.answer_text.Goals as goal

pub returns-then-n-code : goal.returns-then-n-code
returns-then-n-code c =
    let a = c.args in
    all_said (hidden_by a.view a.file.now) a.answer a.code.now a.out.now _ _ (marked c.hidden-hidden.result) _ c.in-Ok.is c.hidden-hidden.ensures (omega arith) c.view_text.ensures

pub returns-else-n-code : goal.returns-else-n-code
returns-else-n-code c =
    let a = c.args in
    part_said (hidden_by a.view a.file.now) a.answer a.code.now a.out.now _ _ (marked c.hidden-hidden.result) _ c.in-Ok.is c.hidden-hidden.ensures c.view_text-in-Ok.ensures

pub returns-in-Err : goal.returns-in-Err
returns-in-Err c =
    let a = c.args in
    refusal_said (hidden_by a.view a.file.now) a.answer a.code.now a.out.now _ _ _ _ c.in-Err.is c.number.ensures (omega (arith, c.number.type_inv)) (omega arith) c.refusal_line.ensures
