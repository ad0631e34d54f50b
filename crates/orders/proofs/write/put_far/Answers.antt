use mathlib.Core.Path.{◌∙◌, ap}
use mathlib.Core.List.{[], ◌∷◌}
use lib.IntN.{ℤ, pos}
use Rattle.isa.specs.Immediate.{lo}
use Rattle.isa.specs.Instr.{I, U, LUI}
use Rattle.encoder.specs.Answer.{encoded}
use Rattle.accesses.specs.Code.{low_op}
use Rattle.accesses.proofs.Numbers.{back_hi}
use Rattle.orders.proofs.Wrote.{told, put_code, is_answer}
use Rattle.orders.proofs.write.put_far.Goals as goal

pub returns : goal.returns
returns c i h =
    let n = c.args.n in
    let high = c.lui.ensures ∙ ap (λ (z : ℤ). encoded (U LUI 5 z)) (back_hi _ n c.hi.ensures) in
    let low = is_answer _ (I (low_op (pos n)) 5 5 (lo n)) c.low_word.ensures in
    put_code (told _ _ high ∷ told _ _ low ∷ told _ _ c.add.ensures ∷ told _ i h ∷ []) _ _ _ _ c.put.ensures
