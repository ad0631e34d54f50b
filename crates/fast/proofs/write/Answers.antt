use native.Mathlib.Omega.{arith}
use Rattle.orders.proofs.Wrote.{offset_small}
use Rattle.fast.proofs.Apart.{is_ifelse, is_load, is_save}
use Rattle.fast.proofs.write.Goals as goal

pub returns-then-shape-eq-IFELSE : goal.returns-then-shape-eq-IFELSE
returns-then-shape-eq-IFELSE c =
    rw (is_ifelse c.args.q c.if-shape-eq-IFELSE.true)
    (rw (offset_small c.index.result (omega (arith, c.index.ensures.1)), c.index.ensures.0, c.register-d.ensures.0, c.register.ensures.0, c.register-then-shape-eq-IFELSE.ensures.0) at c.write_ifelse.ensures)

pub returns-then-shape-eq-LOAD : goal.returns-then-shape-eq-LOAD
returns-then-shape-eq-LOAD c =
    rw (is_load c.args.q c.if-shape-eq-LOAD.true)
    (rw (offset_small c.index-then-shape-eq-LOAD.result (omega (arith, c.index-then-shape-eq-LOAD.ensures.1)), c.index-then-shape-eq-LOAD.ensures.0, c.register-d.ensures.0, c.place_at-p.ensures) at c.write_load.ensures)

pub returns : goal.returns
returns c =
    rw (is_save c.args.q (omega (arith, c.if-shape-lt-IFELSE.false, c.if-shape-eq-IFELSE.false, c.if-shape-eq-LOAD.false, c.requires)))
    (rw (offset_small c.index-2.result (omega (arith, c.index-2.ensures.1)), c.index-2.ensures.0, c.register-d.ensures.0, c.place_at-p.ensures) at c.write_save.ensures)
