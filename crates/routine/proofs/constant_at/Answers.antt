use Rattle.routine.proofs.Placed.{behind_file, constant_is}
use Rattle.routine.proofs.constant_at.Goals as goal

pub returns-then-file-p : goal.returns-then-file-p
returns-then-file-p c = behind_file c.args.file.now c.args.place c.if-file-p.true

pub returns-in-Ok-Constant : goal.returns-in-Ok-Constant
returns-in-Ok-Constant c = constant_is c.args.file.now c.args.place _ (c.line_end-e.ensures.1 c.if-file-p.false).2 _ (rw c.in-Ok-Constant.field-0-is at c.in-Ok-Constant.ensures)

pub returns-in-Ok-Head : goal.returns-in-Ok-Head
returns-in-Ok-Head c = constant_is c.args.file.now c.args.place _ (c.line_end-e.ensures.1 c.if-file-p.false).2 _ (rw c.in-Ok-Head.field-0-is at c.in-Ok-Head.ensures)

pub returns-in-Ok-Order : goal.returns-in-Ok-Order
returns-in-Ok-Order c = constant_is c.args.file.now c.args.place _ (c.line_end-e.ensures.1 c.if-file-p.false).2 _ (rw c.in-Ok-Order.field-0-is at c.in-Ok-Order.ensures)

pub returns-in-Err : goal.returns-in-Err
returns-in-Err c = constant_is c.args.file.now c.args.place _ (c.line_end-e.ensures.1 c.if-file-p.false).2 _ (c.in-Err.ensures)
