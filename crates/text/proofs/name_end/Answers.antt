use native.Mathlib.Omega.{arith}
use mathlib.Core.Path.{◌≡◌, refl, sym, ◌∙◌}
use native.Mathlib.Nat.{add-zero}
use borrow.Author.Rules.{rules}
use lib.Count.{trailing_le}
use Rattle.text.specs.Inner.Parts.{each}
use Rattle.text.specs.Readers.{end_from}
use Rattle.text.proofs.Steps.{ends_here, ends_later}
use Rattle.text.proofs.Eights.{Found, found_eight}
use Rattle.text.proofs.name_end.Goals as goal

pub returns-then-z-eq0 : goal.returns-then-z-eq0
unfolding each
returns-then-z-eq0 c =
    let told : Found (λ i r. r ≡ end_from c.args.s.now i) 0 0 8 c.equal_bytes-z.result = let e = c.eight in
    let f = c.args.s.now in
    rw (c.equal_bytes-z.ensures.1 refl) (found_eight f 44 0 (λ i r. r ≡ end_from f i) (λ i h q. add-zero i ∙ sym (ends_here f i h q)) (λ i r h n q. q ∙ sym (ends_later f i h n)) 0 e.result (search rules) e.ensures) in
    (told.0 c.if-z-eq0.true _ c.field_end-then-z-eq0.ensures.0, c.field_end-then-z-eq0.ensures.2 (omega arith))

pub returns : goal.returns
unfolding each
returns c =
    let told : Found (λ i r. r ≡ end_from c.args.s.now i) 0 0 8 c.equal_bytes-z.result = let e = c.eight in
    let f = c.args.s.now in
    rw (c.equal_bytes-z.ensures.1 refl) (found_eight f 44 0 (λ i r. r ≡ end_from f i) (λ i h q. add-zero i ∙ sym (ends_here f i h q)) (λ i r h n q. q ∙ sym (ends_later f i h n)) 0 e.result (search rules) e.ensures) in
    let q = told.1 c.if-z-eq0.false in
    let t = trailing_le 64 c.equal_bytes-z.result in
    (omega (arith, q), omega (arith, t))
