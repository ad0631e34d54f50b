use mathlib.Core.Path.{sym, ◌∙◌, ap}
use mathlib.Core.List.{[], ◌∷◌}
use Prim.Native.Nat.{ℕ}
use native.Mathlib.Nat.{mod-eq_of_lt}
use native.Mathlib.Omega.{arith}
use lib.IntN.{ℤ, pos}
use Rattle.isa.specs.Immediate.{hi, lo}
use Rattle.isa.specs.Instr.{I, ADDI, U, LUI}
use Rattle.accesses.specs.Code.{low_op}
use Rattle.accesses.specs.Plans.{plan_of}
use Rattle.accesses.proofs.Collect.{collected, li_near, li_far}
use Rattle.accesses.proofs.Numbers.{answered_at, back_hi, back_small}
use Rattle.accesses.proofs.li_unsigned.Goals as goal

pub returns-then-n-lt2048 : goal.returns-then-n-lt2048
returns-then-n-lt2048 c =
    let a = c.args in
    c.one.ensures
    ∙ collected (c.addi.result ∷ []) (I ADDI a.d 0 (pos a.n) ∷ [])
    (answered_at _ (λ (z : ℤ). I ADDI a.d 0 z) c.addi.ensures (back_small a.n (omega arith)), tt)
    ∙ ap plan_of (li_near a.d (pos a.n) c.if-n-lt2048.true)

pub returns : goal.returns
returns c =
    let a = c.args in
    c.two.ensures
    ∙ collected (c.lui.result ∷ c.low_word.result ∷ []) (U LUI a.d (pos (hi a.n)) ∷ I (low_op (pos a.n)) a.d a.d (lo a.n) ∷ []) (
      answered_at _ (λ (z : ℤ). U LUI a.d z) c.lui.ensures (back_hi _ a.n c.hi.ensures),
      (c.low_word.ensures, tt),
    )
    ∙ ap (λ (x : ℕ). plan_of (U LUI a.d (pos (hi x)) ∷ I (low_op (pos a.n)) a.d a.d (lo x) ∷ [])) (sym (mod-eq_of_lt c.ranges.n.fits))
    ∙ ap plan_of (li_far a.d (pos a.n) c.if-n-lt2048.false)
