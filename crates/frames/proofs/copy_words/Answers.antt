use mathlib.Core.Path.{sym, ap, ◌∙◌}
use Prim.Native.Nat.{ℕ, ◌+◌, ◌*◌}
use Rattle.assembler.specs.Put.{words}
use native.Mathlib.Omega.{arith}
use Rattle.frames.specs.Inner.Whole.{is_out}
use Rattle.frames.proofs.Sizes.{none_are, few_are, many_are, straight_words, looped_words}
use borrow.Author.Rules.{rules}
use Rattle.frames.proofs.copy_words.Goals as goal

pub returns-in-0 : goal.returns-in-0
unfolding words
returns-in-0 c =
    let a = c.args in
    (rw (none_are (is_out a.way) a.states a.n c.in-0.is), search rules)

pub returns-in-1-to-16 : goal.returns-in-1-to-16
returns-in-1-to-16 c =
    let a = c.args in
    let o = is_out a.way in
    let f = c.first_words.ensures in
    (rw (few_are o a.states a.n (omega arith) (omega arith)) (ap (λ (k : ℕ). k + 6 * a.n) f.0 ∙ sym (straight_words o a.states a.n)), omega (arith, f.1))

pub returns-in_default : goal.returns-in_default
returns-in_default c =
    let a = c.args in
    let o = is_out a.way in
    let f = c.first_words-in_default.ensures in
    let l = c.li_words.ensures in
    (rw (many_are o a.states a.n (omega arith)) (rw (f.0, l.0 7) (sym (looped_words o a.states a.n))), omega (arith, f.1, l.1))
