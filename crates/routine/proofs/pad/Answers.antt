use Rattle.std.proofs.Common.{◌≡◌, ◌∙◌, sym, ap, List, [], arith}
use Rattle.refusal.specs.Answer.{accepted}
use Rattle.assembler.specs.Item.{Item}
use Rattle.assembler.specs.State.{State, before}
use Rattle.assembler.specs.Put.{put}
use Rattle.routine.proofs.Padded.{padding_none, padding_even, padded_none, nop_word, word_placed}
use Rattle.routine.proofs.pad.Goals as goal

pub returns-then-n-eq0-clause-whole : goal.returns-then-n-eq0-clause-whole
returns-then-n-eq0-clause-whole c = padded_none (before c.args.asm.now) c.args.n c.requires (padding_none c.args.asm.now.asm.len c.args.n c.if-n-eq0.true)

pub returns-then-asm-eq0-clause-whole : goal.returns-then-asm-eq0-clause-whole
returns-then-asm-eq0-clause-whole c = padded_none (before c.args.asm.now) c.args.n c.requires (padding_even c.args.asm.now.asm.len c.args.n c.if-asm-eq0.true)

pub returns-clause-whole : goal.returns-clause-whole
returns-clause-whole c =
    c.append_word.ensures.whole
    ∙ word_placed c.unwrap_or.result (before c.args.asm.now) c.args.n (nop_word c.nop.result c.unwrap_or.result c.nop.ensures c.unwrap_or.ensures) (omega (arith, c.if-n-eq0.false)) c.if-asm-eq0.false
