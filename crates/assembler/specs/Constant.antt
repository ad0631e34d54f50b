-- A constant's items, and the sizes that `align_stack` takes.
use Rattle.std.specs.Prelude.{ℕ, ◌-◌, ◌/◌, ◌%◌, ◌^◌, List, [], ◌∷◌, cond, leb, Result}
use Rattle.refusal.specs.Answer.{Answer, accepted, refused, answer_of_result}
use Rattle.refusal.specs.Number.{number_of}
use Rattle.refusal.specs.declared.Refusal.TheVariants.{Value, Count}
use Rattle.refusal.specs.declared.Refused.{Refused}
use Rattle.ast.specs.declared.Constant.{Constant}
use Rattle.ast.specs.Constant.{constant_bits, constant_limit, constant_label}
use Rattle.ast.specs.Align.{align16}
use Rattle.assembler.specs.Item.{Item, raw, label}

-- 64 bits, the low word first
abbrev pub quad : ℕ → List Item
quad b = raw (b % 2 ^ 32) ∷ raw (b / 2 ^ 32) ∷ []

abbrev pub constant_items : ℕ → Constant → List Item
constant_items k c = label (constant_label k) ∷ quad (constant_bits c)

abbrev pub constant_fault : ℕ → ℕ
constant_fault k = cond (leb k (constant_limit - 1)) 0 (number_of Count)

-- the largest size that `align_stack` takes
abbrev pub align_limit : ℕ
align_limit = 0x7FFFF7FF

abbrev pub size_answer : Result ℕ Refused → Answer ℕ
size_answer r = answer_of_result r

unfoldable pub aligned : ℕ → Answer ℕ
aligned n = cond (leb n align_limit) (accepted (align16 n)) (refused (number_of Value) 0)
