use native.Mathlib.Omega.{arith}
use borrow.Author.Tests.{lt-leb, le-leb, ne_eqb}
use Rattle.text.proofs.Words.{word_is, no_word}
use Rattle.text.proofs.word_to.Goals as goal

pub returns-then-s-lt8 : goal.returns-then-s-lt8
returns-then-s-lt8 c = (no_word _ _ (rw (lt-leb 8 _ c.if-s-lt8.true)), λ h. absurd (omega arith))

pub returns-then-e-gt6 : goal.returns-then-e-gt6
returns-then-e-gt6 c = (no_word _ _ (rw (le-leb 8 _ c.if-s-lt8.false, lt-leb _ 6 c.if-e-gt6.true)), λ h. absurd (omega arith))

pub returns-then-s-e-ne44 : goal.returns-then-s-e-ne44
returns-then-s-e-ne44 c =
    (no_word _ _ (rw (le-leb 8 _ c.if-s-lt8.false, le-leb _ 6 c.if-e-gt6.false, ne_eqb _ 44 c.if-s-e-ne44.true)), λ h. absurd (omega arith))

pub returns : goal.returns
returns c =
    let e = c.eight.ensures in
    let f = c.args.s.now in
    let w = word_is f _ _ c.if-s-lt8.false c.if-e-gt6.false c.if-s-e-ne44.false e in
    (w.0, λ h. w.1)
