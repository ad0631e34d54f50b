-- The grammar: from reading by kind and values (`Inverse`) to what a line says. Assumes nothing.
use mathlib.Core.Path.{◌≡◌, refl, sym, ap, subst, ◌∙◌}
use mathlib.Core.List.{List, ◌++◌}
use mathlib.Core.Option.{Option, some, none, map, some-injective, none-ne-some}
use Prim.Native.Nat.{ℕ}
use Rattle.ast.specs.declared.Order.{Order}
use Rattle.text.specs.Fields.{commas, parted}
use Rattle.form.specs.Text.{DeckLine, head, order, float, bits, line_fields, text, Fits}
use Rattle.form.specs.Grammar.{said, Grammar}
use Rattle.form.specs.Inner.Syntax.{Values, name, sorts, Syntax, line_of, line}
use Rattle.form.specs.Inner.Read.{read}
use Rattle.form.specs.declared.Kind.{Kind}
use Rattle.form.proofs.SyntaxText.{fields, All, SyntaxFits, syntax_text}
use Rattle.form.proofs.Inverse.{read_text, text_read}

-- ---- what kind and values say has their text

fields_of : (k : Kind) (vs : Values (sorts k)) → parted (line_fields (line_of k vs)) ≡ name k ++ commas (fields (sorts k) vs)
fields_of (Kind.Head f) vs = refl
fields_of (Kind.Unary u) vs = refl
fields_of (Kind.Scratched u) vs = refl
fields_of (Kind.Binary u) vs = refl
fields_of (Kind.Fused u) vs = refl
fields_of Kind.Ifelse vs = refl
fields_of Kind.LoadConst vs = refl
fields_of Kind.Load vs = refl
fields_of Kind.Save vs = refl
fields_of Kind.BranchIf vs = refl
fields_of Kind.SetLabel vs = refl
fields_of Kind.Float vs = refl
fields_of Kind.Bits vs = refl

text_of : (l : Syntax) → text (line l) ≡ syntax_text l
unfolding text syntax_text
text_of l = rw (fields_of l.kind l.values)

fits_of : (k : Kind) (vs : Values (sorts k)) → All (sorts k) vs → Fits (line_of k vs)
fits_of (Kind.Head f) vs h = tt
fits_of (Kind.Unary u) vs h = tt
fits_of (Kind.Scratched u) vs h = tt
fits_of (Kind.Binary u) vs h = tt
fits_of (Kind.Fused u) vs h = tt
fits_of Kind.Ifelse vs h = tt
fits_of Kind.LoadConst vs h = tt
fits_of Kind.Load vs h = tt
fits_of Kind.Save vs h = tt
fits_of Kind.BranchIf vs h = tt
fits_of Kind.SetLabel vs h = tt
fits_of Kind.Float vs h = tt
fits_of Kind.Bits vs h = h.0

-- ---- each line is said by a kind and values

pub record Made (l : DeckLine) : Type 0 where
  pub syntax : Syntax
  pub says : line syntax ≡ l
  pub fits : Fits l → SyntaxFits syntax

order_made : (o : Order) → Made (order o)
order_made (Order.Unary u d s) = record { syntax = record { kind = Kind.Unary u; values = (d, (s, tt)) }; says = refl; fits = λ h. (tt, (tt, tt)) }
order_made (Order.Scratched u d s t) = record { syntax = record { kind = Kind.Scratched u; values = (d, (s, (t, tt))) }; says = refl; fits = λ h. (tt, (tt, (tt, tt))) }
order_made (Order.Binary u d a b) = record { syntax = record { kind = Kind.Binary u; values = (d, (a, (b, tt))) }; says = refl; fits = λ h. (tt, (tt, (tt, tt))) }
order_made (Order.Fused u d a b c) = record { syntax = record { kind = Kind.Fused u; values = (d, (a, (b, (c, tt)))) }; says = refl; fits = λ h. (tt, (tt, (tt, (tt, tt)))) }
order_made (Order.Ifelse d a b i) = record { syntax = record { kind = Kind.Ifelse; values = (d, (a, (b, (i, tt)))) }; says = refl; fits = λ h. (tt, (tt, (tt, (tt, tt)))) }
order_made (Order.LoadConst d k) = record { syntax = record { kind = Kind.LoadConst; values = (d, (k, tt)) }; says = refl; fits = λ h. (tt, (tt, tt)) }
order_made (Order.Load d p i) = record { syntax = record { kind = Kind.Load; values = (d, (p, (i, tt))) }; says = refl; fits = λ h. (tt, (tt, (tt, tt))) }
order_made (Order.Save s p i) = record { syntax = record { kind = Kind.Save; values = (s, (p, (i, tt))) }; says = refl; fits = λ h. (tt, (tt, (tt, tt))) }
order_made (Order.BranchIf c l e) = record { syntax = record { kind = Kind.BranchIf; values = (c, (l, (e, tt))) }; says = refl; fits = λ h. (tt, (tt, (tt, tt))) }
order_made (Order.SetLabel l) = record { syntax = record { kind = Kind.SetLabel; values = (l, tt) }; says = refl; fits = λ h. (tt, tt) }

line_made : (l : DeckLine) → Made l
line_made (head H) = record { syntax = record { kind = Kind.Head H.frame; values = (H.cap, (H.states, (H.obs, (H.last, (H.mask, tt))))) }; says = refl; fits = λ h. (tt, (tt, (tt, (tt, (tt, tt))))) }
line_made (order o) = order_made o
line_made (float z) = record { syntax = record { kind = Kind.Float; values = (z, tt) }; says = refl; fits = λ h. (tt, tt) }
line_made (bits n) = record { syntax = record { kind = Kind.Bits; values = (n, tt) }; says = refl; fits = λ h. (h, tt) }

-- ---- the grammar

line_read : (s : List ℕ) (l : DeckLine) → said s ≡ some l → Fits l × (text l ≡ s)
unfolding said
line_read s l e = by (read s) refl e
  where
    by : (o : Option Syntax) → read s ≡ o → map line o ≡ some l → Fits l × (text l ≡ s)
    by none r e = absurd (none-ne-some l e)
    by (some m) r e =
        let t = text_read s m r in
        subst (λ (k : DeckLine). Fits k × (text k ≡ s)) (some-injective (line m) l e) (fits_of m.kind m.values t.0, text_of m ∙ t.1)

read_line : (l : DeckLine) → Fits l → said (text l) ≡ some l
unfolding said
read_line l h =
    let m = line_made l in
    let t : text l ≡ syntax_text m.syntax = ap text (sym m.says) ∙ text_of m.syntax in
    rw (t, read_text m.syntax (m.fits h), m.says)

pub grammar : Grammar
grammar = (line_read, read_line)

-- what is said by no line is no line's text
pub no_text : (s : List ℕ) → said s ≡ none → (l : DeckLine) → Fits l → text l ≡ s → ⊥
no_text s e l h t = none-ne-some l (sym e ∙ ap said (sym t) ∙ read_line l h)
