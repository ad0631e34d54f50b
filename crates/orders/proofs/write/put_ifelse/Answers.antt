use Rattle.accesses.specs.Inner.Plans.{one_code}
use Rattle.accesses.specs.declared.Cell.TheVariants.{LoadInt}
use Rattle.orders.specs.Code.{choose_code}
use Rattle.orders.proofs.Wrote.{wrote_then}
use Rattle.orders.proofs.write.put_ifelse.Goals as goal

pub returns : goal.returns
returns c =
    let a = c.args in
    wrote_then a.buf.now a.len (one_code LoadInt 5 21 a.n) (choose_code a.d a.a a.b) c.put_access-next.ensures c.put_choose.ensures
