use Rattle.fast.proofs.Judged.{within_registers, within_ifelse, within_cell}
use Rattle.fast.proofs.within.Goals as goal

pub returns-then-shape-lt-IFELSE : goal.returns-then-shape-lt-IFELSE
returns-then-shape-lt-IFELSE c = let a = c.args in within_registers a.head a.q c.if-shape-lt-IFELSE.true

pub returns-then-shape-eq-IFELSE : goal.returns-then-shape-eq-IFELSE
returns-then-shape-eq-IFELSE c =
    let a = c.args in
    rw c.index.ensures.0 (within_ifelse a.head a.q c.if-shape-eq-IFELSE.true)

pub returns : goal.returns
returns c =
    rw (c.index-2.ensures.0, c.cell_count.ensures, c.place_at.ensures) (within_cell c.args.head c.args.q c.if-shape-lt-IFELSE.false c.if-shape-eq-IFELSE.false c.requires)
