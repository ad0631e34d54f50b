use mathlib.Core.Path.{sym, ◌∙◌, ap}
use mathlib.Core.List.{List, [], ◌∷◌, ◌++◌}
use Prim.Native.Nat.{ℕ}
use native.Mathlib.Omega.{arith}
use native.Mathlib.Nat.{mod-eq_of_lt}
use lib.IntN.{ℤ, pos}
use Rattle.isa.specs.Immediate.{hi, lo}
use Rattle.isa.specs.Instr.{Instr, R, I, U, ADD, LUI}
use Rattle.assembler.specs.Plan.{pushed}
use Rattle.assembler.specs.declared.Plan.{Plan}
use Rattle.accesses.specs.Code.{low_op, point_code}
use Rattle.accesses.specs.Plans.{plan_of}
use Rattle.accesses.proofs.Collect.{answered, collected, li_far}
use Rattle.accesses.proofs.Numbers.{answered_at, back_hi}
use Rattle.accesses.proofs.far.Goals as goal

pub returns : goal.returns
unfolding point_code
returns c =
    let a = c.args in
    c.four.ensures
    ∙ ap (λ (p : Plan). pushed p a.last)
    (collected (c.lui.result ∷ c.low_word.result ∷ c.add.result ∷ []) (U LUI 5 (pos (hi a.n)) ∷ I (low_op (pos a.n)) 5 5 (lo a.n) ∷ R ADD 5 5 a.base ∷ []) (
      answered_at _ (λ (z : ℤ). U LUI 5 z) c.lui.ensures (back_hi _ a.n c.hi.ensures),
      (c.low_word.ensures, (answered _ _ c.add.ensures, tt)),
    )
    ∙ ap (λ (x : ℕ). plan_of (U LUI 5 (pos (hi x)) ∷ I (low_op (pos a.n)) 5 5 (lo x) ∷ R ADD 5 5 a.base ∷ [])) (sym (mod-eq_of_lt c.ranges.n.fits))
    ∙ ap (λ (is : List Instr). plan_of (is ++ (R ADD 5 5 a.base ∷ []))) (li_far 5 (pos a.n) (omega arith)))
