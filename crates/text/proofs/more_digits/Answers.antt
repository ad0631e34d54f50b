use mathlib.Core.Logic.{inl, inr}
use Prim.Native.Nat.{◌*◌, ◌-◌}
use native.Mathlib.Omega.{arith}
use lib.ListN.{length}
use Rattle.text.proofs.Short.{none_below, some_below, long_number, no_digit, zero_led, more_values, times_few}
use Rattle.text.proofs.more_digits.Goals as goal

pub returns-then-n-gt4 : goal.returns-then-n-gt4
returns-then-n-gt4 c = none_below _ (long_number _ c.if-n-gt4.true)

pub returns-then-a-eq0 : goal.returns-then-a-eq0
returns-then-a-eq0 c = none_below _ (elim c.then-a-eq0.either [
  | inl h ↦ zero_led _ _ (omega (arith, c.requires)) c.decimal-a.ensures h
  | inr (inl h) ↦ no_digit _ 0 _ (omega (arith, c.requires)) c.decimal-a.ensures h.1
  | inr (inr (inl h)) ↦ no_digit _ _ _ (omega (arith, c.requires)) c.decimal-b.ensures h.2
  | inr (inr (inr (inl h))) ↦ no_digit _ _ _ (omega (arith, c.requires)) c.decimal-c.ensures h.3
  | inr (inr (inr (inr h))) ↦ no_digit _ _ _ (omega (arith, c.requires)) c.decimal-d.ensures h.4
])

pub returns : goal.returns
returns c =
    some_below _ _ (omega (arith, times_few (c.decimal-a.result * 1000) (length c.args.s.now - 3) 9000 (omega arith) (omega arith))) (more_values _ _ _ _ _ c.requires c.if-n-gt4.false c.decimal-a.ensures c.decimal-b.ensures c.decimal-c.ensures c.decimal-d.ensures
    c.if-a-eq0.false c.if-a-gt9.false c.if-b-gt9.false c.if-c-gt9.false c.if-d-gt9.false)
