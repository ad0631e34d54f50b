use borrow.Author.Rules.{rules}
use native.Mathlib.Omega.{arith}
use lib.ListN.{length}
use lib.Seq.{length-take-le}
use mathlib.Core.Path.{◌≡◌, ap, ◌∙◌}
use Rattle.assembler.specs.State.{State, before}
use Rattle.assembler.specs.Plan.{earlier, operand_number, plan_items, plan_fault}
use Rattle.assembler.proofs.Writes.{length_written}
use Rattle.assembler.proofs.Steps.{put_refused, put_taken, plan_told, plan_placed}
use Rattle.assembler.proofs.Assembler.place.Goals as goal

pub returns-in_err-check_tail-clause-whole : goal.returns-in_err-check_tail-clause-whole
returns-in_err-check_tail-clause-whole c =
    let a = c.args in
    let s = before a.self.now in
    let f = c.first_fault.ensures.1 ∙ ap (earlier (operand_number a.p.fault)) c.tail_fault.ensures in
    put_refused a.tag (plan_fault a.p a.t) (plan_items a.p a.t) s _ _ _ (plan_told _ _ a.p a.t s (search rules) f c.min-n.ensures) (search rules) c.in_err-check_tail.ensures.whole

pub lay-requires : goal.lay-requires
lay-requires c =
    let k : length c.args.p.w ≡ 12 = search rules in
    let m = length-take-le c.min-n.result c.args.p.w (omega arith) in
    omega (arith, m, c.in_ok-check_tail.ensures.room.0)

pub reserve_tail-requires : goal.reserve_tail-requires
reserve_tail-requires c =
    let k : length c.args.p.w ≡ 12 = search rules in
    let m = length-take-le c.min-n.result c.args.p.w (omega arith) in
    let e = c.lay.ensures.whole in
    let r = c.in_ok-check_tail.ensures.room in
    let n = ap (λ (s : State). s.asm.len) e in
    let j = ap (λ (s : State). s.asm.jumps) e in
    let b = ap (λ (s : State). length s.buf) e in
    let v = ap (λ (s : State). s.labels) e in
    (omega (arith, m, r.0, n, j, b, length_written), rw v r.1)

pub returns-clause-whole : goal.returns-clause-whole
returns-clause-whole c =
    let a = c.args in
    let s = before a.self.now in
    let f = c.first_fault.ensures.1 ∙ ap (earlier (operand_number a.p.fault)) c.tail_fault.ensures in
    put_taken a.tag (plan_fault a.p a.t) (plan_items a.p a.t) s _ _ (plan_told _ _ a.p a.t s (search rules) f c.min-n.ensures) c.in_ok-check_tail.ensures.whole
    (plan_placed a.tag a.p a.t s _ _ _ c.min-n.ensures c.lay.ensures.whole c.reserve_tail.ensures.whole)
