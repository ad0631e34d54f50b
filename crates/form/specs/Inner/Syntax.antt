-- The parts of the reader: what a line is made of, a kind and the values of the fields behind its name, each number of any size.
use Rattle.std.specs.Prelude.{Bool, List, [], ◌∷◌, map, ℕ, ℤ, replicate}
use Rattle.ast.specs.declared.Place.{Place}
use Rattle.ast.specs.declared.Frame.TheVariants as Frame
use Rattle.ast.specs.declared.Unary.TheVariants as Unary
use Rattle.ast.specs.declared.Scratched.TheVariants as Scratched
use Rattle.ast.specs.declared.Binary.TheVariants as Binary
use Rattle.ast.specs.declared.Fused.TheVariants as Fused
use Rattle.ast.specs.declared.Order.TheVariants as Order
use Rattle.text.specs.Ascii.{bytes}
use Rattle.form.specs.Text.{DeckLine, head, order, float, bits}
use Rattle.form.specs.Text.{frame_name, unary_name, scratched_name, binary_name, fused_name}
use Rattle.form.specs.declared.Kind.{Kind}

-- ---- kinds

-- a line's first word
abbrev pub name : Kind → List ℕ
name Kind.Float = bytes "float"
name Kind.Bits = bytes "bits"
name (Kind.Head f) = frame_name f
name Kind.LoadConst = bytes "load_const"
name Kind.Load = bytes "get"
name Kind.Save = bytes "put"
name Kind.BranchIf = bytes "branch"
name Kind.SetLabel = bytes "label"
name Kind.Ifelse = bytes "ifelse"
name (Kind.Unary u) = unary_name u
name (Kind.Scratched u) = scratched_name u
name (Kind.Fused u) = fused_name u
name (Kind.Binary u) = binary_name u

-- constants, line 1, then orders
abbrev pub kinds : List Kind
kinds =
    Kind.Float
    ∷ Kind.Bits
    ∷ Kind.Head Frame.Fast
    ∷ Kind.Head Frame.Indirect
    ∷ Kind.LoadConst
    ∷ Kind.Load
    ∷ Kind.Save
    ∷ Kind.BranchIf
    ∷ Kind.SetLabel
    ∷ Kind.Ifelse
    ∷ Kind.Unary Unary.Fmov
    ∷ Kind.Unary Unary.Recip
    ∷ Kind.Unary Unary.Round
    ∷ Kind.Unary Unary.Floor
    ∷ Kind.Unary Unary.Not
    ∷ Kind.Scratched Scratched.Sign
    ∷ Kind.Scratched Scratched.Frac
    ∷ Kind.Fused Fused.MulAdd
    ∷ Kind.Fused Fused.MulSub
    ∷ Kind.Fused Fused.NegMulAdd
    ∷ Kind.Fused Fused.NegMulSub
    ∷ Kind.Binary Binary.Minus
    ∷ Kind.Binary Binary.Times
    ∷ Kind.Binary Binary.Divide
    ∷ Kind.Binary Binary.Gt
    ∷ Kind.Binary Binary.Neq
    ∷ Kind.Binary Binary.And
    ∷ Kind.Binary Binary.Andnot
    ∷ Kind.Binary Binary.Or
    ∷ Kind.Binary Binary.Xor
    ∷ []

abbrev pub names : List (List ℕ × Kind)
names = map (λ k. (name k, k)) kinds

-- ---- fields

-- What a field can be: a decimal number; one that may have a minus; 16 hexadecimal digits; a place word; 0 or 1.
pub data Sort : Type 0 where
  number integer word place flag : Sort

abbrev pub Value : Sort → Type 0
Value number = ℕ
Value integer = ℤ
Value word = ℕ
Value place = Place
Value flag = Bool

abbrev pub Values : List Sort → Type 0
Values [] = Unit {0}
Values (s ∷ ss) = Value s × Values ss

-- the fields behind the name: destination, operands, scratch or index
abbrev pub sorts : Kind → List Sort
sorts (Kind.Head f) = replicate 5 number  -- cap, states, obs, ret or params, mask
sorts (Kind.Unary u) = replicate 2 number
sorts (Kind.Scratched u) = replicate 3 number
sorts (Kind.Binary u) = replicate 3 number
sorts (Kind.Fused u) = replicate 4 number
sorts Kind.Ifelse = replicate 4 number  -- d, true, false, idx
sorts Kind.LoadConst = replicate 2 number  -- d, k
sorts Kind.Load = number ∷ place ∷ number ∷ []
sorts Kind.Save = number ∷ place ∷ number ∷ []
sorts Kind.BranchIf = number ∷ number ∷ flag ∷ []  -- cond, label, else
sorts Kind.SetLabel = replicate 1 number
sorts Kind.Float = integer ∷ []
sorts Kind.Bits = word ∷ []

-- ---- lines

pub record Syntax : Type 0 where
  pub kind : Kind
  pub values : Values (sorts kind)

-- ---- what a line says, from its kind and values

abbrev pub line_of : (k : Kind) → Values (sorts k) → DeckLine
line_of (Kind.Head f) vs =
    head (record { frame = f; cap = vs.0; states = vs.1.0; obs = vs.1.1.0; last = vs.1.1.1.0; mask = vs.1.1.1.1.0 })
line_of (Kind.Unary u) vs = order (Order.Unary u vs.0 vs.1.0)
line_of (Kind.Scratched u) vs = order (Order.Scratched u vs.0 vs.1.0 vs.1.1.0)
line_of (Kind.Binary u) vs = order (Order.Binary u vs.0 vs.1.0 vs.1.1.0)
line_of (Kind.Fused u) vs = order (Order.Fused u vs.0 vs.1.0 vs.1.1.0 vs.1.1.1.0)
line_of Kind.Ifelse vs = order (Order.Ifelse vs.0 vs.1.0 vs.1.1.0 vs.1.1.1.0)
line_of Kind.LoadConst vs = order (Order.LoadConst vs.0 vs.1.0)
line_of Kind.Load vs = order (Order.Load vs.0 vs.1.0 vs.1.1.0)
line_of Kind.Save vs = order (Order.Save vs.0 vs.1.0 vs.1.1.0)
line_of Kind.BranchIf vs = order (Order.BranchIf vs.0 vs.1.0 vs.1.1.0)
line_of Kind.SetLabel vs = order (Order.SetLabel vs.0)
line_of Kind.Float vs = float vs.0
line_of Kind.Bits vs = bits vs.0

abbrev pub line : Syntax → DeckLine
line l = line_of l.kind l.values
