use Rattle.print.specs.Reason.{refusal_text}
use Rattle.print.proofs.Sentences.{filled, reason_told}
use Rattle.print.proofs.reason.reason_line.Goals as goal

pub returns : goal.returns
returns c =
    let a = c.args in
    let f = filled (refusal_text a.number) _ _ c.refusal_text.ensures.1 c.refusal_text.ensures.0 _ c.in_ok-n.was in
    reason_told a.number a.line _ a.out.now _ _ f c.put_reason.ensures
