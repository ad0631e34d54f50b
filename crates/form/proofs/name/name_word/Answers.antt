use Prim.Native.Nat.{◌-◌}
use native.Mathlib.Omega.{arith}
use Rattle.form.proofs.Names.{spelled_small}
use Rattle.form.proofs.name.name_word.Goals as goal

pub overflow_mul-w : goal.overflow_mul-w
overflow_mul-w c =
    let l = c.loop-i in
    record { fits = omega (arith, spelled_small c.args.s.now l.i l.w c.requires c.loop-i-test.true l.invariant) }

pub overflow_add-w : goal.overflow_add-w
overflow_add-w c =
    let l = c.loop-i in
    record { fits = omega (arith, spelled_small c.args.s.now l.i l.w c.requires c.loop-i-test.true l.invariant, c.from.ensures, (c.type_inv.s (l.i - 1)).fits) }
