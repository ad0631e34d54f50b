use mathlib.Core.Path.{refl}
use native.Mathlib.Omega.{arith}
use Prim.Native.Nat.{◌-◌}
use lib.ListN.{length}
use Rattle.fast.proofs.Whole.{short_line, no_end, near_end, far_end, no_comma, line_said}
use Rattle.fast.proofs.order_in.Goals as goal

pub returns-then-n-lt8 : goal.returns-then-n-lt8
returns-then-n-lt8 c = short_line c.args.line.now c.if-n-lt8.true

pub returns-then-line-m-ne10 : goal.returns-then-line-m-ne10
returns-then-line-m-ne10 c = no_end c.args.line.now _ refl c.if-line-m-ne10.true

pub returns-then-end-m : goal.returns-then-end-m
returns-then-end-m c =
    let l = c.args.line.now in
    no_comma l _ refl c.if-n-lt8.false c.if-line-m-ne10.false (length l - 1) (far_end l (length l - 1) c.read_name-code.result.1 c.read_name-code.ensures.0 c.if-end-m.true) (omega arith)

pub returns : goal.returns
returns c =
    let l = c.args.line.now in
    let r = c.read_name-code in
    -- the end of the name is the same without byte 10
    let e = near_end l (length l - 1) r.result.1 r.ensures.0 c.if-end-m.false in
    line_said l _ refl c.if-n-lt8.false c.if-line-m-ne10.false r.result.1 e c.if-end-m.false r.result.0 c.order_of.result r.ensures.2 c.order_of.ensures
