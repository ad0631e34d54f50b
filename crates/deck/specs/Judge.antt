-- Document 01, "Numbers of refusal": what a line says, if its numbers are in their ranges. Its refusals, in order: 12, 1, 3, 2, 9.
use Rattle.std.specs.Prelude.{Bool, true, false, ◌^◌, ltb, leb, nat_abs, Result, Ok, Err}
use Rattle.std.specs.Bool.{beq}
use Rattle.std.proofs.Math.Option.{Option, some, none}
use Rattle.std.specs.Float.Ieee.{of_int}
use Rattle.std.specs.Float.{binary64}
use Rattle.refusal.specs.Answer.{Answer, accepted, refused}
use Rattle.refusal.specs.Number.{number_of}
use Rattle.refusal.specs.declared.Refusal.{Refusal}
use Rattle.refusal.specs.declared.Refusal.TheVariants.{Register, Value, Label, Count}
use Rattle.refusal.specs.declared.Refusal.TheVariants as Why
use Rattle.ast.specs.Constant.{constant_limit}
use Rattle.ast.specs.Counts.{count_limit, counts_hold}
use Rattle.ast.specs.Uses.{uses, registers_fit}
use Rattle.ast.specs.declared.Head.{Head}
use Rattle.ast.specs.declared.Order.{Order}
use Rattle.ast.specs.declared.Operand.{Operand}
use Rattle.ast.specs.declared.Constant.{Constant}
use Rattle.form.specs.Text.{DeckLine}
use Rattle.form.specs.Text as Text
use Rattle.deck.specs.declared.Line.{Line}

-- what an accepted line says
pub data Content : Type 0 where
  head : Head → Content
  order : Order → Content
  constant : Constant → Content

-- the answer, if the test holds; else the refusal. The place 0 stands for the line's, which the routine knows.
abbrev pub demand : Bool → Refusal → Answer Content → Answer Content
demand true r a = a
demand false r a = refused (number_of r) 0

-- An order's operand that is no register. No count is more than 4,096, so no index is 4,096 or more.
abbrev pub operand_judged : Operand → Answer Content → Answer Content
operand_judged Operand.Nothing a = a
operand_judged (Operand.Loaded p i) a = demand (ltb i count_limit) Count a
operand_judged (Operand.Stored p i) a = demand (ltb i count_limit) Count a
operand_judged (Operand.Constant k) a = demand (ltb k constant_limit) Count a
operand_judged (Operand.GoneTo l) a = demand (leb l 1023) Label a
operand_judged (Operand.Set l) a = demand (leb l 1023) Label a

unfoldable pub judged : DeckLine → Answer Content
judged (Text.head H) = demand (ltb H.mask (2 ^ 32)) Value (demand (counts_hold H) Count (accepted (head H)))
judged (Text.order o) = demand (registers_fit (uses o).registers) Register (operand_judged (uses o).operand (accepted (order o)))
judged (Text.float z) = demand (leb (nat_abs z) (2 ^ 53)) Value (accepted (constant (Constant.Float (of_int binary64 z))))
judged (Text.bits n) = accepted (constant (Constant.Bits n))

abbrev pub is_head : DeckLine → Bool
is_head (Text.head H) = true
is_head (Text.order o) = false
is_head (Text.float z) = false
is_head (Text.bits n) = false

-- What a file's line says: it is the text of a line, line 1 of a head, and no other line of a head.
unfoldable pub line_judged : (first : Bool) → Option DeckLine → Answer Content
line_judged first none = refused (number_of Why.Line) 0
line_judged first (some l) = demand (beq (is_head l) first) Why.Line (judged l)

-- ---- as the code has it

abbrev pub content : Line → Content
content (Line.Head h) = head h
content (Line.Order o) = order o
content (Line.Constant c) = constant c

abbrev pub line_answer : Result Line Refusal → Answer Content
line_answer (Ok l) = accepted (content l)
line_answer (Err r) = refused (number_of r) 0
