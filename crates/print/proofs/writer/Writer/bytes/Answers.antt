use mathlib.Core.Path.{◌∙◌, refl, ap}
use native.Mathlib.Omega.{arith}
use lib.ListN.{length}
use lib.Seq.{length-sets}
use Rattle.print.proofs.Stores.{copied}
use Rattle.print.proofs.writer.Writer.bytes.Goals as goal

pub returns : goal.returns
returns c =
    let a = c.args in
    let w = a.self.now in
    let e = copied w.out.now _ a.s.now w.at _ c.copy_from_slice.ensures.after (omega arith) c.requires in
    record { same_buffer = refl; at = refl; as_long = ap length e ∙ length-sets w.out.now w.at a.s.now; out = e }
