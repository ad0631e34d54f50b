use mathlib.Core.Path.{refl}
use Prim.Native.Nat.{◌+◌}
use borrow.Author.Rules.{rules}
use Rattle.text.specs.Inner.Parts.{each}
use Rattle.text.specs.Lines.{Ends}
use Rattle.text.proofs.Lined.{ends_behind, ends_here, ends_later}
use Rattle.text.proofs.Eights.{FoundTwo, found_eight, found_two}
use Rattle.text.proofs.line_end.Goals as goal

pub returns-then-a-n : goal.returns-then-a-n
returns-then-a-n c = ends_behind _ _ (search rules)

pub returns-then-y-z-ne0 : goal.returns-then-y-z-ne0
unfolding each
returns-then-y-z-ne0 c =
    let told : FoundTwo (Ends c.args.file.now) 1 c.loop-i.i c.equal_bytes-y.result c.equal_bytes-z.result = let i = c.loop-i.i in
    let e = c.eight in
    let g = c.eight-in-loop-i in
    let f = c.args.file.now in
    let at = found_eight f 10 1 (Ends f) (ends_here f) (λ i r h. ends_later f i h r) in
    rw (c.equal_bytes-y.ensures.0 refl, c.equal_bytes-z.ensures.0 refl) (found_two (Ends f) 1 i _ _ (at i e.result (search rules) e.ensures) (at (i + 8) g.result (search rules) g.ensures)) in
    rw c.first_mark.ensures.0 (c.loop-i.invariant.2 _ (told.1 c.if-y-z-ne0.true))

pub loop-i-preserved : goal.loop-i-preserved
unfolding each
loop-i-preserved c =
    let told : FoundTwo (Ends c.args.file.now) 1 c.loop-i.i c.equal_bytes-y.result c.equal_bytes-z.result = let i = c.loop-i.i in
    let e = c.eight in
    let g = c.eight-in-loop-i in
    let f = c.args.file.now in
    let at = found_eight f 10 1 (Ends f) (ends_here f) (λ i r h. ends_later f i h r) in
    rw (c.equal_bytes-y.ensures.0 refl, c.equal_bytes-z.ensures.0 refl) (found_two (Ends f) 1 i _ _ (at i e.result (search rules) e.ensures) (at (i + 8) g.result (search rules) g.ensures)) in
    (refl, search rules, λ r e. c.loop-i.invariant.2 r (told.0 c.if-y-z-ne0.false r e))
