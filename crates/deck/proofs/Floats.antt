-- A whole number of magnitude at most 2^53 as an i64 and as a float.
use mathlib.Core.Path.{◌≡◌, sym, ap, subst, ◌∙◌}
use mathlib.Core.Bool.{Bool, true, false}
use Prim.Native.Nat.{ℕ, zero, suc, ◌≤◌}
use native.Mathlib.Omega.{arith}
use borrow.Author.Tests.{lt-ltb, le-leb}
use lib.Dec.{T}
use lib.Ieee.{in_float, of_int, binary64}
use lib.IntN.{ℤ, pos, neg_ℤ, ◌-ℤ◌, +ℤ_idl}
use mir.Syntax.{w64}
use mir.Val.{SFits, of_z, to_z}
use mir.ValLaws.{to_z-of_z}
use Rattle.refusal.specs.Answer.{accepted}
use Rattle.ast.specs.declared.Constant.TheVariants as Constant
use Rattle.text.specs.declared.Number.{Number}
use Rattle.text.specs.declared.Number.TheVariants.{Value}
use Rattle.form.specs.declared.Form.TheVariants as Form
use Rattle.deck.specs.Judge.{constant}
use Rattle.deck.specs.Inner.Forms.{form_judged}

module _ (v : ℕ) (h : v ≤ 9007199254740992) where
  plain : to_z w64 v ≡ pos v
  plain = to_z-of_z w64 (pos v) (record { sfits = omega arith })

  negated : pos 0 -ℤ to_z w64 v ≡ neg_ℤ (pos v)
  negated = ap (λ (z : ℤ). pos 0 -ℤ z) plain ∙ +ℤ_idl (neg_ℤ (pos v))

  small : (n : ℕ) → n ≤ 9007199254740992 → SFits w64 (neg_ℤ (pos n))
  small zero k = record { sfits = omega arith }
  small (suc n) k = record { sfits = omega arith }

  pub fits : SFits w64 (pos 0 -ℤ to_z w64 v)
  fits = subst (SFits w64) (sym negated) (small v h)

  back : to_z w64 (of_z w64 (pos 0 -ℤ to_z w64 v)) ≡ neg_ℤ (pos v)
  back = to_z-of_z w64 (pos 0 -ℤ to_z w64 v) fits ∙ negated

  pub plain_in : T (in_float binary64 (to_z w64 v))
  unfolding in_float
  plain_in = rw plain (subst T (sym (le-leb v 9007199254740992 h)) tt)

  neg_in : (n : ℕ) → n ≤ 9007199254740992 → T (in_float binary64 (neg_ℤ (pos n)))
  unfolding in_float
  neg_in zero k = tt
  neg_in (suc n) k = subst T (sym (lt-ltb n 9007199254740992 k)) tt

  pub negated_in : T (in_float binary64 (to_z w64 (of_z w64 (pos 0 -ℤ to_z w64 v))))
  negated_in = rw back (neg_in v h)

  module _ (m : Bool) (n : Number) (e : n ≡ Value v) where
    pub plain_is : m ≡ false → accepted (constant (Constant.Float (of_int binary64 (to_z w64 v)))) ≡ form_judged (Form.Float m n)
    unfolding form_judged
    plain_is g = rw (e, g, lt-ltb v 9007199254740993 (omega arith), plain)

    pub negated_is : m ≡ true → accepted (constant (Constant.Float (of_int binary64 (to_z w64 (of_z w64 (pos 0 -ℤ to_z w64 v)))))) ≡ form_judged (Form.Float m n)
    unfolding form_judged
    negated_is g = rw (e, g, lt-ltb v 9007199254740993 (omega arith), back)
