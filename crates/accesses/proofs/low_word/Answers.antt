use borrow.Author.Tests.{lt-ltb, le-ltb}
use lib.IntN.{ℤ}
use Rattle.isa.specs.Instr.{I, ADDI, ADDIW}
use Rattle.accesses.specs.Code.{top}
use Rattle.accesses.proofs.Numbers.{answered_at, back_lo}
use Rattle.accesses.proofs.low_word.Goals as goal

pub returns-then-n-lt-TOP : goal.returns-then-n-lt-TOP
returns-then-n-lt-TOP c =
    let a = c.args in
    rw (lt-ltb a.n top c.if-n-lt-TOP.true) (answered_at _ (λ (z : ℤ). I ADDI a.d a.d z) c.addi.ensures (back_lo _ a.n c.lo.ensures))

pub returns : goal.returns
returns c =
    let a = c.args in
    rw (le-ltb a.n top c.if-n-lt-TOP.false) (answered_at _ (λ (z : ℤ). I ADDIW a.d a.d z) c.addiw.ensures (back_lo _ a.n c.lo-2.ensures))
