use native.Mathlib.Omega.{arith}
use Rattle.fast.proofs.Apart.{is_unary, is_scratched, is_binary, is_fused}
use Rattle.fast.proofs.write_registers.Goals as goal

pub returns-then-shape-eq-UNARY : goal.returns-then-shape-eq-UNARY
returns-then-shape-eq-UNARY c =
    rw (is_unary c.args.q c.if-shape-eq-UNARY.true) (rw (c.unary_at.ensures, c.register-d.ensures.0, c.register-a.ensures.0) at c.write_unary.ensures)

pub returns-then-shape-eq-SCRATCHED : goal.returns-then-shape-eq-SCRATCHED
returns-then-shape-eq-SCRATCHED c =
    rw (is_scratched c.args.q c.if-shape-eq-SCRATCHED.true) (rw (c.scratched_at.ensures, c.register-d.ensures.0, c.register-a.ensures.0, c.register-b.ensures.0) at c.write_scratched.ensures)

pub returns-then-shape-eq-BINARY : goal.returns-then-shape-eq-BINARY
returns-then-shape-eq-BINARY c =
    rw (is_binary c.args.q c.if-shape-eq-BINARY.true) (rw (c.binary_at.ensures, c.register-d.ensures.0, c.register-a.ensures.0, c.register-b.ensures.0) at c.write_binary.ensures)

pub returns : goal.returns
returns c =
    rw (is_fused c.args.q (omega (arith, c.if-shape-eq-UNARY.false, c.if-shape-eq-SCRATCHED.false, c.if-shape-eq-BINARY.false, c.requires)))
    (rw (c.fused_at.ensures, c.register-d.ensures.0, c.register-a.ensures.0, c.register-b.ensures.0, c.register.ensures.0) at c.write_fused.ensures)
