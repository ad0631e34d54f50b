-- The judge over the code's forms, whose numbers are of 64 bits. That it is the judge of `Judge` is proved (`proofs/Forms`).
use Rattle.std.specs.Prelude.{Bool, true, false, ◌&&◌, ℕ, ◌^◌, ltb, ℤ, pos, neg_ℤ}
use Rattle.std.specs.Float.Ieee.{of_int}
use Rattle.std.specs.Float.{binary64}
use Rattle.refusal.specs.Answer.{Answer, accepted}
use Rattle.refusal.specs.declared.Refusal.TheVariants.{Register, Value as Valued, Label, Count}
use Rattle.ast.specs.Constant.{constant_limit}
use Rattle.ast.specs.Counts.{counts_hold}
use Rattle.ast.specs.declared.Frame.{Frame}
use Rattle.ast.specs.declared.Head.{Head}
use Rattle.ast.specs.declared.Order.TheVariants as Order
use Rattle.ast.specs.declared.Constant.TheVariants as Constant
use Rattle.text.specs.declared.Number.{Number}
use Rattle.text.specs.declared.Number.TheVariants.{Value, TooBig}
use Rattle.form.specs.declared.Form.{Form}
use Rattle.deck.specs.Judge.{Content, head, order, constant, demand}

-- ---- fields

abbrev pub below : ℕ → Number → Bool
below k (Value n) = ltb n k
below k TooBig = false

abbrev pub value : Number → ℕ
value (Value n) = n
value TooBig = 0

abbrev pub register : Number → Bool
register n = below 32 n

-- a user's label
abbrev pub label : Number → Bool
label n = below 1024 n

-- no count is more than 4,096, so no index is 4,096 or more
abbrev pub index : Number → Bool
index n = below 4096 n

-- `k` of `load_const`
abbrev pub constant_index : Number → Bool
constant_index n = below constant_limit n

abbrev pub mask : Number → Bool
mask n = below (2 ^ 32) n

abbrev pub count : Number → Bool
count n = below 4097 n

-- magnitudes up to 2^53
abbrev pub exact : Number → Bool
exact n = below 9007199254740993 n

abbrev pub signed : Bool → ℕ → ℤ
signed false n = pos n
signed true n = neg_ℤ (pos n)

-- ---- the head

abbrev pub head_of : Frame → (cap states obs last mask : Number) → Head
head_of f c s o l m = record { frame = f; cap = value c; states = value s; obs = value o; last = value l; mask = value m }

-- ---- a form: 1, 3, 2, 9

unfoldable pub form_judged : Form → Answer Content
form_judged (Form.Head f c s o l m) =
    demand (mask m) Valued
    (demand (count c && (count s && (count o && (count l && counts_hold (head_of f c s o l m))))) Count
    (accepted (head (head_of f c s o l m))))
form_judged (Form.Unary u d s) =
    demand (register d && register s) Register
    (accepted (order (Order.Unary u (value d) (value s))))
form_judged (Form.Scratched u d s t) =
    demand (register d && (register s && register t)) Register
    (accepted (order (Order.Scratched u (value d) (value s) (value t))))
form_judged (Form.Binary u d s t) =
    demand (register d && (register s && register t)) Register
    (accepted (order (Order.Binary u (value d) (value s) (value t))))
form_judged (Form.Fused u d s t v) =
    demand (register d && (register s && (register t && register v))) Register
    (accepted (order (Order.Fused u (value d) (value s) (value t) (value v))))
form_judged (Form.Ifelse d s t i) =
    demand (register d && (register s && register t)) Register
    (demand (index i) Count
    (accepted (order (Order.Ifelse (value d) (value s) (value t) (value i)))))
form_judged (Form.LoadConst d k) =
    demand (register d) Register (demand (constant_index k) Count (accepted (order (Order.LoadConst (value d) (value k)))))
form_judged (Form.Load d p i) =
    demand (register d) Register (demand (index i) Count (accepted (order (Order.Load (value d) p (value i)))))
form_judged (Form.Save s p i) =
    demand (register s) Register (demand (index i) Count (accepted (order (Order.Save (value s) p (value i)))))
form_judged (Form.BranchIf c l e) =
    demand (register c) Register (demand (label l) Label (accepted (order (Order.BranchIf (value c) (value l) e))))
form_judged (Form.SetLabel l) = demand (label l) Label (accepted (order (Order.SetLabel (value l))))
form_judged (Form.Float minus n) =
    demand (exact n) Valued (accepted (constant (Constant.Float (of_int binary64 (signed minus (value n))))))
form_judged (Form.Bits n) = accepted (constant (Constant.Bits n))

abbrev pub form_is_head : Form → Bool
form_is_head (Form.Head f c s o l m) = true
form_is_head (Form.Unary u d s) = false
form_is_head (Form.Scratched u d s t) = false
form_is_head (Form.Binary u d s t) = false
form_is_head (Form.Fused u d s t v) = false
form_is_head (Form.Ifelse d s t i) = false
form_is_head (Form.LoadConst d k) = false
form_is_head (Form.Load d p i) = false
form_is_head (Form.Save s p i) = false
form_is_head (Form.BranchIf c l e) = false
form_is_head (Form.SetLabel l) = false
form_is_head (Form.Float minus n) = false
form_is_head (Form.Bits n) = false
