use Rattle.std.proofs.Common.{◌∙◌, sym, ap, List, [], ◌∷◌, ◌+◌, ◌-◌, length, get_or, ℕ, arith}
use Rattle.assembler.specs.Bytes.{written}
use Rattle.assembler.specs.Memory.{Jump, jumps_of}
use Rattle.assembler.proofs.Writes.{length_written}
use Rattle.finish.specs.Finish.{jump_number, jump_word, patched}
use Rattle.finish.specs.Inner.Finish.{jump_of}
use Rattle.finish.proofs.Wrong.{right, at_first, place_small}
use Rattle.finish.proofs.Patched.{patched_step, patched_end, one_word}
use Rattle.finish.proofs.write_jumps.Goals as goal

pub bounds-labels-j : goal.bounds-labels-j
bounds-labels-j c =
    let a = c.args in
    (right a.labels.now a.len (jump_of c.jump_at-j.result) (ap (jump_number a.labels.now a.len) c.jump_at-j.ensures.0 ∙ c.requires.4 c.loop-i.i c.loop-i-test.true)).good.label

pub word-requires : goal.word-requires
word-requires c =
    let a = c.args in
    let j = jump_of c.jump_at-j.result in
    let g = (right a.labels.now a.len j (ap (jump_number a.labels.now a.len) c.jump_at-j.ensures.0 ∙ c.requires.4 c.loop-i.i c.loop-i-test.true)).good in
    let p = place_small a.len (get_or a.labels.now j.label 0) (at_first a.len a.labels.now c.requires.3 j.label g.label) in
    (omega (arith, p, c.label_place-a.ensures), omega (arith, g.inside))

pub loop-i-preserved : goal.loop-i-preserved
loop-i-preserved c =
    let a = c.args in
    let j = jump_of c.jump_at-j.result in
    let r = right a.labels.now a.len j (ap (jump_number a.labels.now a.len) c.jump_at-j.ensures.0 ∙ c.requires.4 c.loop-i.i c.loop-i-test.true) in
    let e = one_word a.labels.now c.loop-i.buf a.len j r (omega (arith, c.loop-i.invariant.0)) _ _ _ c.label_place-a.ensures c.word.ensures c.write_words.ensures in
    let b = e ∙ ap (λ (i : Jump). written c.loop-i.buf i.word (jump_word a.labels.now i ∷ [])) c.jump_at-j.ensures.0 in
    let rest = jumps_of a.jumps.now (c.loop-i.i + 1) (a.n - (c.loop-i.i + 1)) in (
      ap length e ∙ length_written _ _ _ ∙ c.loop-i.invariant.0,
      c.loop-i.invariant.1 ∙ patched_step a.labels.now c.loop-i.buf a.jumps.now c.loop-i.i a.n c.loop-i-test.true ∙ ap (λ (b : List ℕ). patched a.labels.now b rest) (sym b),
    )

pub returns : goal.returns
returns c =
    let a = c.args in
    sym (c.loop-i.invariant.1 ∙ patched_end a.labels.now c.loop-i.buf a.jumps.now c.loop-i.i a.n c.loop-i-test.false)
