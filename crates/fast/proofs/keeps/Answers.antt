use mathlib.Core.Path.{sym, ◌∙◌}
use native.Mathlib.Omega.{arith}
use Rattle.fast.proofs.Judged.{keeps_unary, keeps_scratched, loses_scratched, keeps_one, keeps_save, keeps_const, keeps_jumps}
use Rattle.fast.proofs.keeps.Goals as goal

pub returns-then-shape-eq-UNARY : goal.returns-then-shape-eq-UNARY
returns-then-shape-eq-UNARY c =
    let a = c.args in
    keeps_unary a.mask a.q c.if-shape-eq-UNARY.true (rw (c.register-d.ensures.0, c.register.ensures.0) at c.unary_free.ensures)

pub returns-then-is_free : goal.returns-then-is_free
returns-then-is_free c =
    let a = c.args in
    let t = rw c.register-then-shape-eq-SCRATCHED.ensures.0 at (sym c.is_free.ensures ∙ c.if-is_free.true) in
    keeps_scratched a.mask a.q c.if-shape-eq-SCRATCHED.true t (rw c.register-d.ensures.0 at c.is_free-then-is_free.ensures)

pub returns-then-shape-eq-SCRATCHED : goal.returns-then-shape-eq-SCRATCHED
returns-then-shape-eq-SCRATCHED c =
    let a = c.args in
    let t = rw c.register-then-shape-eq-SCRATCHED.ensures.0 at (sym c.is_free.ensures ∙ c.if-is_free.false) in
    loses_scratched a.mask a.q c.if-shape-eq-SCRATCHED.true t

pub returns-then-shape-lt-SAVE : goal.returns-then-shape-lt-SAVE
returns-then-shape-lt-SAVE c =
    let a = c.args in
    keeps_one a.mask a.q c.if-shape-eq-UNARY.false c.if-shape-eq-SCRATCHED.false c.if-shape-lt-SAVE.true (rw c.register-d.ensures.0 at c.is_free-then-shape-lt-SAVE.ensures)

pub returns-then-shape-eq-SAVE : goal.returns-then-shape-eq-SAVE
returns-then-shape-eq-SAVE c =
    keeps_save c.args.mask c.args.q c.if-shape-eq-SAVE.true (rw (c.place_at.ensures, c.index.ensures.0) at c.is_open.ensures)

pub returns-then-shape-eq-LOAD_CONST : goal.returns-then-shape-eq-LOAD_CONST
returns-then-shape-eq-LOAD_CONST c =
    let a = c.args in
    keeps_const a.mask a.q c.if-shape-eq-LOAD_CONST.true (rw c.register-d.ensures.0 at c.is_free-then-shape-eq-LOAD_CONST.ensures)

pub returns : goal.returns
returns c =
    let a = c.args in
    keeps_jumps a.mask a.q (omega (arith, c.if-shape-lt-SAVE.false, c.if-shape-eq-SAVE.false, c.if-shape-eq-LOAD_CONST.false))
