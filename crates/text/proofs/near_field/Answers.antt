use mathlib.Core.Logic.{inl, inr}
use Prim.Native.Nat.{◌+◌, ◌<◌}
use native.Mathlib.Omega.{arith}
use lib.ListN.{length}
use Rattle.text.proofs.Near.{near_few, no_comma, near_low, near_last, near_above, near_yes}
use Rattle.text.proofs.near_field.Goals as goal
use Rattle.text.proofs.near_field.Goals.{then-n-lt3-via-then-n-lt3, then-n-lt3-via-else-n-lt3+then-a-n}

pub returns-then-n-lt3 : goal.returns-then-n-lt3
returns-then-n-lt3 c = near_few _ _ (elim c.then-n-lt3.branch [
  | then-n-lt3-via-then-n-lt3 w ↦ omega (arith, w.if-n-lt3.true)
  | then-n-lt3-via-else-n-lt3+then-a-n w ↦ omega (arith, w.if-a-n.true, w.if-n-lt3.false)
])

pub returns-then-s-e-ne44 : goal.returns-then-s-e-ne44
returns-then-s-e-ne44 c =
    let long : c.args.a + 2 < length c.args.s.now = omega (arith, c.if-a-n.false, c.if-n-lt3.false) in
    no_comma _ _ _ long c.near_end-e.ensures.0 c.if-s-e-ne44.true

pub returns-then-x-w : goal.returns-then-x-w
returns-then-x-w c =
    let long : c.args.a + 2 < length c.args.s.now = omega (arith, c.if-a-n.false, c.if-n-lt3.false) in
    let n = c.near_end-e.ensures in
    elim c.then-x-w.either [
      | inl h ↦ near_low _ _ _ long n.0 c.if-s-e-ne44.false n.1 n.2 _ _ c.decimal-x.ensures c.decimal-y.ensures h
      | inr h ↦ near_last _ _ _ long n.0 c.if-s-e-ne44.false n.1 n.2 _ _ c.decimal-x.ensures c.decimal-y.ensures h.1
    ]

pub returns-then-v-gt99 : goal.returns-then-v-gt99
returns-then-v-gt99 c =
    let long : c.args.a + 2 < length c.args.s.now = omega (arith, c.if-a-n.false, c.if-n-lt3.false) in
    let n = c.near_end-e.ensures in
    near_above _ _ _ long n.0 c.if-s-e-ne44.false n.1 n.2 _ _ c.decimal-x.ensures c.decimal-y.ensures c.if-y-gt9.false c.if-v-gt99.true

pub returns-else-v-gt99 : goal.returns-else-v-gt99
returns-else-v-gt99 c =
    let long : c.args.a + 2 < length c.args.s.now = omega (arith, c.if-a-n.false, c.if-n-lt3.false) in
    let n = c.near_end-e.ensures in
    near_yes _ _ _ long n.0 c.if-s-e-ne44.false n.1 n.2 _ _ c.decimal-x.ensures c.decimal-y.ensures c.if-x-w.false c.if-y-gt9.false c.if-v-gt99.false
