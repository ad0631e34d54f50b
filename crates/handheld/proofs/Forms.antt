-- What a form says is what its line says. Assumes nothing.
use mathlib.Core.Path.{◌≡◌, refl, ap}
use mathlib.Core.Bool.{Bool, true, false, cond}
use mathlib.Core.List.{List}
use mathlib.Core.Option.{Option, some, none}
use Prim.Native.Nat.{ℕ}
use native.Mathlib.Omega.{arith}
use borrow.Author.Tests.{lt-leb, ltb-false}
use lib.Dec.{ltb}
use lib.IntN.{ℤ}
use Rattle.ast.specs.declared.Order.{Order}
use Rattle.text.specs.Readers.{sized}
use Rattle.text.specs.declared.Number.TheVariants.{Value, TooBig}
use Rattle.form.specs.Text.{DeckLine}
use Rattle.form.specs.Text as Text
use Rattle.form.specs.Grammar.{said}
use Rattle.form.specs.Form.{cut, formed, form_of}
use Rattle.std.specs.Prelude.{Some, None}
use Rattle.form.specs.declared.Form.{Form}
use Rattle.handheld.specs.declared.Said.TheVariants as Said
use Rattle.deck.proofs.Forms.{form_law}
use Rattle.handheld.specs.Single.{field, constant_of, says}
use Rattle.handheld.specs.Inner.Forms.{field_of, form_says}

-- a number in 64 bits, and then in 32
sized_field : (n : ℕ) → field_of (sized n) ≡ field n
sized_field n = go (ltb n 18446744073709551616) refl
  where
    go : (t : Bool) → ltb n 18446744073709551616 ≡ t → field_of (cond t (Value n) TooBig) ≡ field n
    go true e = refl
    go false e = rw (lt-leb n 4294967295 (omega (arith, ltb-false n 18446744073709551616 e)))

order_said : (o : Order) → form_says (cut (Text.order o)) ≡ says (some (Text.order o))
unfolding form_says says
order_said (Order.Unary u d s) = rw (sized_field d, sized_field s)
order_said (Order.Scratched u d s t) = rw (sized_field d, sized_field s, sized_field t)
order_said (Order.Binary u d a b) = rw (sized_field d, sized_field a, sized_field b)
order_said (Order.Fused u d a b c) = rw (sized_field d, sized_field a, sized_field b, sized_field c)
order_said (Order.Ifelse d a b i) = rw (sized_field d, sized_field a, sized_field b, sized_field i)
order_said (Order.LoadConst d k) = rw (sized_field d, sized_field k)
order_said (Order.Load d p i) = rw (sized_field d, sized_field i)
order_said (Order.Save s p i) = rw (sized_field s, sized_field i)
order_said (Order.BranchIf c l e) = rw (sized_field c, sized_field l)
order_said (Order.SetLabel l) = rw (sized_field l)

float_said : (z : ℤ) → form_says (cut (Text.float z)) ≡ says (some (Text.float z))
unfolding form_says says
float_said z = ap constant_of (form_law (Text.float z))

bits_said : (n : ℕ) → form_says (cut (Text.bits n)) ≡ says (some (Text.bits n))
unfolding form_says says
bits_said n = ap constant_of (form_law (Text.bits n))

formed_said : (l : DeckLine) → form_says (cut l) ≡ says (some l)
unfolding form_says says
formed_said (Text.head H) = refl
formed_said (Text.order o) = order_said o
formed_said (Text.float z) = float_said z
formed_said (Text.bits n) = bits_said n

module _ (line : List ℕ) where
  pub says_form : (f : Form) → form_of line ≡ Some f → form_says f ≡ says (said line)
  unfolding form_of
  says_form f e = go (said line) e
    where
      go : (o : Option DeckLine) → formed o ≡ Some f → form_says f ≡ says o
      go none e = absurd (let z : ◌≡◌ {A = ℕ} 0 1 = cc in omega arith)
      go (some l) e = let w : f ≡ cut l = cc in rw w (formed_said l)

  pub says_none : form_of line ≡ None → says (said line) ≡ Said.Other
  unfolding form_of says
  says_none e = go (said line) e
    where
      go : (o : Option DeckLine) → formed o ≡ None → says o ≡ Said.Other
      go none e = refl
      go (some l) e = absurd (let z : ◌≡◌ {A = ℕ} 0 1 = cc in omega arith)
