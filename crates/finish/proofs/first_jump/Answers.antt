use Rattle.std.proofs.Common.{◌≡◌, ◌∙◌, Bool, List, ℕ, eqb, arith}
use Rattle.refusal.specs.Number.{number_of}
use Rattle.refusal.proofs.Equal.{fault_equal}
use Rattle.assembler.specs.Memory.{jump_at}
use Rattle.assembler.specs.Memory as Memory
use Rattle.finish.specs.Finish.{jump_number}
use Rattle.finish.specs.Inner.Finish.{has_fault}
use Rattle.finish.proofs.First.{first_here, first_later}
use Rattle.finish.proofs.first_jump.Goals as goal

-- what the functions say of jump i, put together
has : (labels jumps : List ℕ) (len i number k : ℕ) (j : Memory.Jump) (e : Bool) → j ≡ jump_at jumps i → k ≡ jump_number labels len j → e ≡ eqb k number
    → has_fault number labels len jumps i ≡ e
has labels jumps len i number k j e p q r = rw (r, q, p)

pub returns-then-eq : goal.returns-then-eq
returns-then-eq c =
    let a = c.args in
    let h = has a.labels.now a.jumps.now a.len c.loop-i.i _ _ _ _ c.jump_at.ensures.0 c.fault.ensures (c.eq.ensures ∙ fault_equal c.fault.result a.want) in
    let e = first_here (has_fault (number_of a.want) a.labels.now a.len a.jumps.now) c.loop-i.i a.n c.loop-i-test.true (h ∙ c.if-eq.true) in
    (omega (arith, e, c.loop-i.invariant), c.loop-i-test.true)

pub loop-i-preserved : goal.loop-i-preserved
loop-i-preserved c =
    let a = c.args in
    let h = has a.labels.now a.jumps.now a.len c.loop-i.i _ _ _ _ c.jump_at.ensures.0 c.fault.ensures (c.eq.ensures ∙ fault_equal c.fault.result a.want) in
    let e = first_later (has_fault (number_of a.want) a.labels.now a.len a.jumps.now) c.loop-i.i a.n c.loop-i-test.true (h ∙ c.if-eq.false) in
    omega (arith, e, c.loop-i.invariant)
