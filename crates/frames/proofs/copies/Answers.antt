use native.Mathlib.Omega.{arith}
use mathlib.Core.Path.{refl, sym, ap, ◌∙◌}
use mathlib.Core.List.{List, [], ◌++◌}
use Rattle.assembler.specs.Item.{Item}
use Rattle.assembler.specs.Put.{jumps, targets, put}
use Rattle.assembler.specs.State.{before}
use Rattle.frame_code.specs.Items.{times_over}
use Rattle.frame_code.specs.Inner.Copies.{copy_first, copy_each}
use Rattle.accesses.proofs.Placed.{plan_code}
use Rattle.frames.specs.Inner.Whole.{is_out}
use Rattle.frames.proofs.Parts.{jumps_code, untagged}
use Rattle.frames.proofs.Sizes.{none_are, few_are, many_are}
use Rattle.frames.proofs.copies.Goals as goal

pub returns-in-0-clause-whole : goal.returns-in-0-clause-whole
unfolding jumps targets
returns-in-0-clause-whole c =
    let a = c.args in
    c.place.ensures.whole ∙ plan_code _ [] c.new.ensures (omega arith) tt 0 _ ∙ untagged 0 a.tag 0 [] _ refl ∙ ap (λ (is : List Item). put a.tag 0 is (before a.asm.now)) (sym (none_are (is_out a.way) a.states a.n c.in-0.is))

pub returns-in-1-to-16-clause-whole : goal.returns-in-1-to-16-clause-whole
returns-in-1-to-16-clause-whole c =
    let a = c.args in
    let o = is_out a.way in
    c.straight.ensures.whole ∙ untagged 0 a.tag 0 _ _ (jumps_code (copy_first o a.states ++ times_over a.n (copy_each o))) ∙ ap (λ (is : List Item). put a.tag 0 is (before a.asm.now)) (sym (few_are o a.states a.n (omega arith) (omega arith)))

pub returns-in_default-clause-whole : goal.returns-in_default-clause-whole
returns-in_default-clause-whole c =
    let a = c.args in
    c.looped.ensures.whole ∙ ap (λ (is : List Item). put a.tag 0 is (before a.asm.now)) (sym (many_are (is_out a.way) a.states a.n (omega arith)))
