use native.Mathlib.Omega.{arith}
use Rattle.print.proofs.Lines.{turn, turns_end}
use Rattle.print.proofs.Written.{all_left, none_left, room_left, less_left}
use Rattle.print.proofs.put_words.Goals as goal

pub loop-j-init : goal.loop-j-init
loop-j-init c = all_left _ _

pub put_word_line-requires : goal.put_word_line-requires
put_word_line-requires c =
    let l = c.loop-j in
    room_left _ _ (turn c.args.code.now l.j _ (omega arith) c.word_at.ensures) l.invariant c.requires

pub loop-j-preserved : goal.loop-j-preserved
loop-j-preserved c =
    let l = c.loop-j in
    less_left _ _ (turn c.args.code.now l.j _ (omega arith) c.word_at.ensures) l.invariant c.put_word_line.ensures

pub returns : goal.returns
returns c =
    let l = c.loop-j in
    none_left (turns_end c.args.code.now l.j (omega arith)) l.invariant
