-- What a line says, over the code's forms. That it is what `Single` says of the line is proved (`proofs/Forms`).
use Rattle.std.specs.Prelude.{ℕ}
use Rattle.ast.specs.declared.Order.TheVariants as Order
use Rattle.text.specs.declared.Number.{Number}
use Rattle.text.specs.declared.Number.TheVariants.{Value, TooBig}
use Rattle.form.specs.declared.Form.{Form}
use Rattle.deck.specs.Inner.Forms.{form_judged}
use Rattle.handheld.specs.Single.{field, constant_of}
use Rattle.handheld.specs.declared.Said.{Said}

abbrev pub field_of : Number → ℕ
field_of (Value n) = field n
field_of TooBig = 4294967295

unfoldable pub form_says : Form → Said
form_says (Form.Unary u d s) = Said.Order (Order.Unary u (field_of d) (field_of s))
form_says (Form.Scratched u d s t) = Said.Order (Order.Scratched u (field_of d) (field_of s) (field_of t))
form_says (Form.Binary u d s t) = Said.Order (Order.Binary u (field_of d) (field_of s) (field_of t))
form_says (Form.Fused u d s t v) = Said.Order (Order.Fused u (field_of d) (field_of s) (field_of t) (field_of v))
form_says (Form.Ifelse d s t i) = Said.Order (Order.Ifelse (field_of d) (field_of s) (field_of t) (field_of i))
form_says (Form.LoadConst d k) = Said.Order (Order.LoadConst (field_of d) (field_of k))
form_says (Form.Load d p i) = Said.Order (Order.Load (field_of d) p (field_of i))
form_says (Form.Save s p i) = Said.Order (Order.Save (field_of s) p (field_of i))
form_says (Form.BranchIf c l e) = Said.Order (Order.BranchIf (field_of c) (field_of l) e)
form_says (Form.SetLabel l) = Said.Order (Order.SetLabel (field_of l))
form_says (Form.Float minus n) = constant_of (form_judged (Form.Float minus n))
form_says (Form.Bits n) = constant_of (form_judged (Form.Bits n))
form_says (Form.Head f c s o l m) = Said.Other
