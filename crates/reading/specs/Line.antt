-- A line of a deck from line 2 on, and how many orders it counts for.
use Rattle.std.specs.Prelude.{ℕ}
use Rattle.ast.specs.declared.Order.{Order}
use Rattle.ast.specs.declared.Constant.{Constant}
use Rattle.ast.specs.Uses.{sets, weighs}

pub data Line : Type 0 where
  order : Order → Line
  constant : Constant → Line

-- 1 for an order, 0 for `label`, `float` and `bits`
abbrev pub weight : Line → ℕ
weight (order o) = weighs (sets o)
weight (constant c) = 0
