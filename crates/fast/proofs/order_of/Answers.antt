use mathlib.Core.Path.{sym, ◌∙◌}
use Rattle.std.specs.Prelude.{None}
use Rattle.text.specs.Readers.{fields_from}
use Rattle.fast.proofs.Fields.{is_numbers, is_cell, is_branch, is_other}
use Rattle.fast.proofs.order_of.Goals as goal

pub returns-then-is_numeric : goal.returns-then-is_numeric
returns-then-is_numeric c =
    let a = c.args in
    is_numbers a.k (fields_from a.s.now a.a) c.numbers.result (sym c.is_numeric.ensures ∙ c.if-is_numeric.true) c.numbers.ensures

pub returns-then-shape-lt-LOAD_CONST : goal.returns-then-shape-lt-LOAD_CONST
returns-then-shape-lt-LOAD_CONST c =
    let a = c.args in
    is_cell a.k (fields_from a.s.now a.a) c.cell.result (sym c.is_numeric.ensures ∙ c.if-is_numeric.false) c.if-shape-lt-LOAD_CONST.true c.cell.ensures

pub returns-then-shape-eq-BRANCH : goal.returns-then-shape-eq-BRANCH
returns-then-shape-eq-BRANCH c =
    let a = c.args in
    is_branch a.k (fields_from a.s.now a.a) c.branch-k.result (sym c.is_numeric.ensures ∙ c.if-is_numeric.false) c.if-shape-lt-LOAD_CONST.false c.if-shape-eq-BRANCH.true c.branch-k.ensures

pub returns-else-shape-eq-BRANCH : goal.returns-else-shape-eq-BRANCH
returns-else-shape-eq-BRANCH c =
    let a = c.args in
    is_other a.k (fields_from a.s.now a.a) None (sym c.is_numeric.ensures ∙ c.if-is_numeric.false) c.if-shape-lt-LOAD_CONST.false c.if-shape-eq-BRANCH.false
