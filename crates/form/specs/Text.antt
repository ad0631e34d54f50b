-- Document 01, "The deck file": what a line says, and the text that says it.
use Rattle.std.specs.Prelude.{Bool, true, false, List, [], ◌∷◌, ◌++◌, map, ℕ, ◌<◌, ◌^◌, ℤ}
use Rattle.ast.specs.declared.Frame.{Frame}
use Rattle.ast.specs.declared.Frame.TheVariants.{Fast, Indirect}
use Rattle.ast.specs.declared.Place.{Place}
use Rattle.ast.specs.declared.Place.TheVariants.{Mem, Stack, Param}
use Rattle.ast.specs.declared.Unary as U
use Rattle.ast.specs.declared.Unary.TheVariants.{Fmov, Recip, Round, Floor, Not}
use Rattle.ast.specs.declared.Scratched as S
use Rattle.ast.specs.declared.Scratched.TheVariants.{Sign, Frac}
use Rattle.ast.specs.declared.Binary as B
use Rattle.ast.specs.declared.Binary.TheVariants.{Minus, Times, Divide, Gt, Neq, And, Andnot, Or, Xor}
use Rattle.ast.specs.declared.Fused as F
use Rattle.ast.specs.declared.Fused.TheVariants.{MulAdd, MulSub, NegMulAdd, NegMulSub}
use Rattle.ast.specs.declared.Head.{Head}
use Rattle.ast.specs.declared.Order.{Order}
use Rattle.ast.specs.declared.Order.TheVariants.{Unary, Scratched, Binary, Fused, Ifelse, LoadConst, Load, Save, BranchIf, SetLabel}
use Rattle.text.specs.Ascii.{bytes}
use Rattle.text.specs.Digits.{decimal, integer_bytes, word_bytes}
use Rattle.text.specs.Fields.{parted}

-- What a line says: line 1, an order, a whole number or 64 bits as a constant. Numbers are of any size.
pub data DeckLine : Type 0 where
  head : Head → DeckLine
  order : Order → DeckLine
  float : ℤ → DeckLine
  bits : ℕ → DeckLine

-- ---- names

abbrev pub frame_name : Frame → List ℕ
frame_name Fast = bytes "fast"
frame_name Indirect = bytes "indirect"

-- "an order's Rust name"
abbrev pub unary_name : U.Unary → List ℕ
unary_name Fmov = bytes "fmov"
unary_name Recip = bytes "recip"
unary_name Round = bytes "round"
unary_name Floor = bytes "floor"
unary_name Not = bytes "not"

abbrev pub scratched_name : S.Scratched → List ℕ
scratched_name Sign = bytes "sign"
scratched_name Frac = bytes "frac"

abbrev pub binary_name : B.Binary → List ℕ
binary_name Minus = bytes "minus"
binary_name Times = bytes "times"
binary_name Divide = bytes "divide"
binary_name Gt = bytes "gt"
binary_name Neq = bytes "neq"
binary_name And = bytes "and"
binary_name Andnot = bytes "andnot"
binary_name Or = bytes "or"
binary_name Xor = bytes "xor"

abbrev pub fused_name : F.Fused → List ℕ
fused_name MulAdd = bytes "fused_mul_add"
fused_name MulSub = bytes "fused_mul_sub"
fused_name NegMulAdd = bytes "fused_neg_mul_add"
fused_name NegMulSub = bytes "fused_neg_mul_sub"

abbrev pub place_name : Place → List ℕ
place_name Mem = bytes "mem"
place_name Stack = bytes "stack"
place_name Param = bytes "param"

-- `else` of `branch`: "0 or 1"
abbrev pub flag_name : Bool → List ℕ
flag_name false = bytes "0"
flag_name true = bytes "1"

-- ---- fields

-- an order's name, then its fields: "destination, operands, scratch or index"
abbrev pub order_fields : Order → List (List ℕ)
order_fields (Unary u d s) = unary_name u ∷ map decimal (d ∷ s ∷ [])
order_fields (Scratched u d s t) = scratched_name u ∷ map decimal (d ∷ s ∷ t ∷ [])
order_fields (Binary u d a b) = binary_name u ∷ map decimal (d ∷ a ∷ b ∷ [])
order_fields (Fused u d a b c) = fused_name u ∷ map decimal (d ∷ a ∷ b ∷ c ∷ [])
order_fields (Ifelse d a b i) = bytes "ifelse" ∷ map decimal (d ∷ a ∷ b ∷ i ∷ [])
order_fields (LoadConst d k) = bytes "load_const" ∷ map decimal (d ∷ k ∷ [])
order_fields (Load d p i) = bytes "get" ∷ decimal d ∷ place_name p ∷ decimal i ∷ []
order_fields (Save s p i) = bytes "put" ∷ decimal s ∷ place_name p ∷ decimal i ∷ []
order_fields (BranchIf c l e) = bytes "branch" ∷ decimal c ∷ decimal l ∷ flag_name e ∷ []
order_fields (SetLabel l) = bytes "label" ∷ decimal l ∷ []

-- "`fast,cap,states,obs,ret,mask` or `indirect,cap,states,obs,params,mask`"; "`bits,` and 16 lowercase hex digits"
abbrev pub line_fields : DeckLine → List (List ℕ)
line_fields (head H) = frame_name H.frame ∷ map decimal (H.cap ∷ H.states ∷ H.obs ∷ H.last ∷ H.mask ∷ [])
line_fields (order o) = order_fields o
line_fields (float z) = bytes "float" ∷ integer_bytes z ∷ []
line_fields (bits n) = bytes "bits" ∷ word_bytes n ∷ []

-- ---- the text

-- "Fields in a fixed order parted by commas, no quoting; each line ends in byte 10."
unfoldable pub text : DeckLine → List ℕ
text l = parted (line_fields l) ++ (10 ∷ [])

-- 16 hexadecimal digits are a number below 2^64
abbrev pub Fits : DeckLine → Type 0
Fits (head H) = Unit {0}
Fits (order o) = Unit {0}
Fits (float z) = Unit {0}
Fits (bits n) = n < 2 ^ 64
