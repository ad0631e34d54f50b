-- A line's form, as the code has it: what the line says, each number as 64 bits hold it; none where it is malformed.
use Rattle.std.specs.Prelude.{Bool, true, false, List, ℕ, ℤ, pos, negsuc, nat_abs}
use Rattle.std.proofs.Math.Option.{Option}
use Rattle.std.specs.Prelude as rust
use Rattle.std.specs.Prelude.{option_map}
use Rattle.text.specs.Readers.{sized, as_option}
use Rattle.ast.specs.declared.Order.{Order}
use Rattle.form.specs.Text.{DeckLine, head, order, float, bits}
use Rattle.form.specs.Grammar.{said}
use Rattle.form.specs.declared.Form.{Form}

-- a minus
abbrev pub is_negative : ℤ → Bool
is_negative (pos n) = false
is_negative (negsuc n) = true

abbrev pub order_form : Order → Form
order_form (Order.Unary u d s) = Form.Unary u (sized d) (sized s)
order_form (Order.Scratched u d s t) = Form.Scratched u (sized d) (sized s) (sized t)
order_form (Order.Binary u d a b) = Form.Binary u (sized d) (sized a) (sized b)
order_form (Order.Fused u d a b c) = Form.Fused u (sized d) (sized a) (sized b) (sized c)
order_form (Order.Ifelse d a b i) = Form.Ifelse (sized d) (sized a) (sized b) (sized i)
order_form (Order.LoadConst d k) = Form.LoadConst (sized d) (sized k)
order_form (Order.Load d p i) = Form.Load (sized d) p (sized i)
order_form (Order.Save s p i) = Form.Save (sized s) p (sized i)
order_form (Order.BranchIf c l e) = Form.BranchIf (sized c) (sized l) e
order_form (Order.SetLabel l) = Form.SetLabel (sized l)

abbrev pub cut : DeckLine → Form
cut (head H) = Form.Head H.frame (sized H.cap) (sized H.states) (sized H.obs) (sized H.last) (sized H.mask)
cut (order o) = order_form o
cut (float z) = Form.Float (is_negative z) (sized (nat_abs z))
cut (bits n) = Form.Bits n

abbrev pub formed : Option DeckLine → rust.Option Form
formed o = option_map cut (as_option o)

unfoldable pub form_of : List ℕ → rust.Option Form
form_of s = formed (said s)
