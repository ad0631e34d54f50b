use mathlib.Core.Path.{sym}
use Prim.Native.Nat.{◌+◌, ◌*◌, ◌-◌}
use native.Mathlib.Omega.{arith}
use Rattle.assembler.proofs.Writes.{written_none}
use Rattle.orders.proofs.Wrote.{put_next}
use Rattle.orders.proofs.write.put.Goals as goal

pub loop-i-init : goal.loop-i-init
loop-i-init c = sym (written_none c.args.buf.now c.args.len)

pub loop-i-preserved : goal.loop-i-preserved
loop-i-preserved c =
    let a = c.args in
    let at = a.len + 4 * c.loop-i.i in
    put_next a.buf.now c.loop-i.buf a.len c.loop-i.i (at + 4 - at) c.unwrap_or.result a.es.now (omega arith) c.loop-i-test.true c.requires c.loop-i.invariant c.unwrap_or.ensures c.write_words.ensures
