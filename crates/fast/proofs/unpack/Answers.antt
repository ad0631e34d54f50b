use mathlib.Core.Path.{sym}
use native.Mathlib.Omega.{arith}
use Rattle.fast.proofs.Apart.{is_load_const, is_branch, is_label}
use Rattle.fast.proofs.unpack.Goals as goal

pub returns-then-shape-eq-LOAD_CONST : goal.returns-then-shape-eq-LOAD_CONST
returns-then-shape-eq-LOAD_CONST c =
    rw (c.index.ensures.0, c.register.ensures.0) (sym (is_load_const c.args.q c.if-shape-eq-LOAD_CONST.true))

pub returns-then-shape-eq-BRANCH : goal.returns-then-shape-eq-BRANCH
returns-then-shape-eq-BRANCH c =
    rw (c.index-then-shape-eq-BRANCH.ensures.0, c.register-then-shape-eq-BRANCH.ensures.0) (sym (is_branch c.args.q c.if-shape-eq-BRANCH.true))

pub returns : goal.returns
returns c =
    rw c.index-2.ensures.0 (sym (is_label c.args.q (omega (arith, c.requires, c.if-shape-eq-LOAD_CONST.false, c.if-shape-eq-BRANCH.false))))
