use native.Mathlib.Omega.{arith}
use lib.ListN.{drop}
use Rattle.text.specs.Lines.{lines_of}
use Rattle.stale.proofs.Scan.{none_found, one_noted, all_found, no_lines}
use Rattle.stale.proofs.lines_from.Goals as goal

pub loop-at-init : goal.loop-at-init
loop-at-init c =
    let a = c.args in
    (λ h. omega (arith, c.requires.1 h), none_found (lines_of (drop a.at a.file.now)))

pub loop-at-preserved : goal.loop-at-preserved
loop-at-preserved c =
    let l = c.loop-at in
    let s = c.line_end-end.ensures.1 c.loop-at-test.true in
    let n = l.invariant.0 c.loop-at-test.true in
    (λ h. omega (arith, n, s.0), rw (c.note.ensures, c.label_of.ensures) (one_noted s.2 l.invariant.1 (omega (arith, n, c.requires.0, c.loop-at-test.true))))

pub returns : goal.returns
returns c =
    let a = c.args in
    let n = no_lines a.file.now c.loop-at.at (omega arith) in
    all_found (lines_of (drop a.at a.file.now)) c.loop-at.next c.loop-at.found (rw n at c.loop-at.invariant.1)
