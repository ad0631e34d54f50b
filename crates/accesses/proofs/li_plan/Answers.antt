use mathlib.Core.Path.{◌≡◌, sym, ◌∙◌, ap}
use mathlib.Core.List.{[], ◌∷◌}
use Prim.Native.Nat.{◌-◌}
use lib.IntN.{ℤ, pos}
use mir.Syntax.{w32}
use mir.ValLaws.{to_z-of_z}
use Rattle.isa.specs.Immediate.{hi, lo}
use Rattle.isa.specs.Instr.{U, LUI, I, ADDI}
use Rattle.encoder.specs.Sign.{sign_of}
use Rattle.encoder.proofs.Signs.{handed}
use Rattle.accesses.specs.Plans.{plan_of}
use Rattle.accesses.proofs.Collect.{collected, li_near, li_below, size_of_neg}
use Rattle.accesses.proofs.Numbers.{answered_at, back_hi, back_lo}
use Rattle.accesses.proofs.li_plan.Goals as goal

pub returns-then-n-lt2048 : goal.returns-then-n-lt2048
returns-then-n-lt2048 c =
    let told : c.split-s.result ≡ sign_of c.args.z = handed sign_of c.args.z c.ranges.z c.split-s.ensures in
    let a = c.args in
    let m = size_of_neg a.z _ (sym told ∙ c.in-Neg.is) in
    c.one.ensures
    ∙ collected (c.addi.result ∷ []) (I ADDI a.d 0 a.z ∷ [])
    (answered_at _ (λ (z : ℤ). I ADDI a.d 0 z) c.addi.ensures (to_z-of_z w32 a.z c.ranges.z), tt)
    ∙ ap plan_of (li_near a.d a.z (rw m c.if-n-lt2048.true))

pub returns-else-n-lt2048 : goal.returns-else-n-lt2048
returns-else-n-lt2048 c =
    let told : c.split-s.result ≡ sign_of c.args.z = handed sign_of c.args.z c.ranges.z c.split-s.ensures in
    let a = c.args in
    c.two.ensures
    ∙ collected (c.lui.result ∷ c.addi-in-Neg.result ∷ []) (U LUI a.d (pos (hi (4294967295 - c.in-Neg.n))) ∷ I ADDI a.d a.d (lo (4294967295 - c.in-Neg.n)) ∷ []) (
      answered_at _ (λ (z : ℤ). U LUI a.d z) c.lui.ensures (back_hi _ (4294967295 - c.in-Neg.n) c.hi.ensures),
      (answered_at _ (λ (z : ℤ). I ADDI a.d a.d z) c.addi-in-Neg.ensures (back_lo _ (4294967295 - c.in-Neg.n) c.lo.ensures), tt),
    )
    ∙ ap plan_of (li_below a.d a.z c.in-Neg.n (sym told ∙ c.in-Neg.is) c.ranges.z c.if-n-lt2048.false)
