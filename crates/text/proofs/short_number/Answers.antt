use mathlib.Core.Logic.{inl, inr}
use Prim.Native.Nat.{◌*◌, ◌-◌}
use native.Mathlib.Omega.{arith}
use lib.ListN.{length}
use Rattle.text.proofs.Short.{none_below, some_below, no_bytes, no_digit, first_low, few_digits, times_few}
use Rattle.text.proofs.short_number.Goals as goal

pub returns-then-n-eq0 : goal.returns-then-n-eq0
returns-then-n-eq0 c = none_below _ (no_bytes _ c.if-n-eq0.true)

pub returns-then-a-n : goal.returns-then-a-n
returns-then-a-n c = none_below _ (elim c.then-a-n.either [
  | inl h ↦ first_low _ _ c.if-n-gt2.false c.decimal-a.ensures h
  | inr (inl h) ↦ no_digit _ 0 _ (omega (arith, c.if-n-eq0.false)) c.decimal-a.ensures h.1
  | inr (inr h) ↦ no_digit _ _ _ (omega (arith, c.if-n-eq0.false)) c.decimal-b.ensures h.2
])

pub returns : goal.returns
returns c =
    some_below _ _ (omega (arith, times_few (c.decimal-a.result * 10) (length c.args.s.now - 1) 90 (omega arith) (omega arith))) (few_digits _ _ _ (omega (arith, c.if-n-eq0.false)) c.if-n-gt2.false c.decimal-a.ensures c.decimal-b.ensures c.if-a-n.false c.if-a-gt9.false c.if-b-gt9.false)
