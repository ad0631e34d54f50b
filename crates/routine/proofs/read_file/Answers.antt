use Rattle.std.proofs.Common.{◌∙◌, arith}
use Rattle.assembler.specs.State.{before}
use Rattle.routine.proofs.Lined.{empty_lines, file_long, file_empty, first_goes}
use Rattle.routine.proofs.read_file.Goals as goal

pub returns-then-file-gt65536-clause-whole : goal.returns-then-file-gt65536-clause-whole
returns-then-file-gt65536-clause-whole c = rw c.refused.ensures (file_long c.args.file.now (before c.args.asm.now) c.if-file-gt65536.true)

pub returns-then-file-eq0-clause-whole : goal.returns-then-file-eq0-clause-whole
returns-then-file-eq0-clause-whole c = rw c.refused-then-file-eq0.ensures (file_empty c.args.file.now (before c.args.asm.now) c.if-file-gt65536.false (empty_lines c.args.file.now c.if-file-eq0.true))

pub returns-in-Ok-Head-clause-whole : goal.returns-in-Ok-Head-clause-whole
returns-in-Ok-Head-clause-whole c =
    let s = before c.args.asm.now in
    c.read_headed.ensures.whole ∙ first_goes c.args.file.now s c.if-file-gt65536.false _ (omega (arith, c.if-file-eq0.false)) c.line_end-e.ensures _ (rw c.in-Ok-Head.field-0-is at c.in-Ok-Head.ensures)

pub returns-in-Ok-Order-clause-whole : goal.returns-in-Ok-Order-clause-whole
returns-in-Ok-Order-clause-whole c =
    let s = before c.args.asm.now in
    rw c.refused-in-Ok-Order.ensures (first_goes c.args.file.now s c.if-file-gt65536.false _ (omega (arith, c.if-file-eq0.false)) c.line_end-e.ensures _ (rw c.in-Ok-Order.field-0-is at c.in-Ok-Order.ensures))

pub returns-in-Ok-Constant-clause-whole : goal.returns-in-Ok-Constant-clause-whole
returns-in-Ok-Constant-clause-whole c =
    let s = before c.args.asm.now in
    rw c.refused-in-Ok-Constant.ensures (first_goes c.args.file.now s c.if-file-gt65536.false _ (omega (arith, c.if-file-eq0.false)) c.line_end-e.ensures _ (rw c.in-Ok-Constant.field-0-is at c.in-Ok-Constant.ensures))

pub returns-in-Err-clause-whole : goal.returns-in-Err-clause-whole
returns-in-Err-clause-whole c =
    let s = before c.args.asm.now in
    rw c.refused-in-Err.ensures (first_goes c.args.file.now s c.if-file-gt65536.false _ (omega (arith, c.if-file-eq0.false)) c.line_end-e.ensures _ c.in-Err.ensures)
