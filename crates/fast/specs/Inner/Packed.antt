-- An order as one number: its shape and its operation (the place of `get` and `put`, the flag of `branch`), two digits of base 16,
-- then its operands in base 32, the first one lowest. The last operand may be an index.
use Rattle.std.specs.Prelude.{Bool, cond, ℕ, ◌+◌, ◌*◌, ◌/◌, ◌%◌, eqb}
use Rattle.ast.specs.declared.Place.{Place}
use Rattle.ast.specs.declared.Place.TheVariants.{Mem, Stack, Param}
use Rattle.form.specs.Inner.Names.{unary_number, scratched_number, binary_number, fused_number}
use Rattle.form.specs.Inner.Names.{unary_at, scratched_at, binary_at, fused_at, code}
use Rattle.ast.specs.declared.Order.{Order}
use Rattle.ast.specs.declared.Order.TheVariants.{Unary, Scratched, Binary, Fused, Ifelse, LoadConst, Load, Save, BranchIf, SetLabel}

-- ---- what stands in place of an operation

-- of `get` and `put`
abbrev pub place_number : Place → ℕ
place_number Mem = 0
place_number Stack = 1
place_number Param = 2

-- of `branch`
abbrev pub flag_number : Bool → ℕ
flag_number e = cond e 1 0

-- ---- and back

abbrev pub place_at : ℕ → Place
place_at n = cond (eqb n 0) Mem (cond (eqb n 1) Stack Param)

-- ---- an order's number

-- a register below what stands behind it
abbrev pub below : (r x : ℕ) → ℕ
below r x = r + 32 * x

unfoldable pub pack : Order → ℕ
pack (Unary k d s) = code 0 (unary_number k) + 256 * below d s
pack (Scratched k d s t) = code 1 (scratched_number k) + 256 * below d (below s t)
pack (Binary k d a b) = code 2 (binary_number k) + 256 * below d (below a b)
pack (Fused k d a b c) = code 3 (fused_number k) + 256 * below d (below a (below b c))
pack (Ifelse d a b i) = code 4 0 + 256 * below d (below a (below b i))
pack (Load d p i) = code 5 (place_number p) + 256 * below d i
pack (Save s p i) = code 6 (place_number p) + 256 * below s i
pack (LoadConst d k) = code 7 0 + 256 * below d k
pack (BranchIf c l e) = code 8 (flag_number e) + 256 * below c l
pack (SetLabel l) = code 9 0 + 256 * l

-- ---- and back

abbrev pub register : ℕ → ℕ
register x = x % 32

abbrev pub index : ℕ → ℕ
index x = x % 4096

unfoldable pub order_at : (shape operation x : ℕ) → Order
order_at k n x =
    cond (eqb k 0) (Unary (unary_at n) (register x) (register (x / 32)))
    (cond (eqb k 1) (Scratched (scratched_at n) (register x) (register (x / 32)) (register (x / 32 / 32)))
    (cond (eqb k 2) (Binary (binary_at n) (register x) (register (x / 32)) (register (x / 32 / 32)))
    (cond (eqb k 3) (Fused (fused_at n) (register x) (register (x / 32)) (register (x / 32 / 32)) (register (x / 32 / 32 / 32)))
    (cond (eqb k 4) (Ifelse (register x) (register (x / 32)) (register (x / 32 / 32)) (index (x / 32 / 32 / 32)))
    (cond (eqb k 5) (Load (register x) (place_at n) (index (x / 32)))
    (cond (eqb k 6) (Save (register x) (place_at n) (index (x / 32)))
    (cond (eqb k 7) (LoadConst (register x) (index (x / 32)))
    (cond (eqb k 8) (BranchIf (register x) (index (x / 32)) (eqb n 1))
    (SetLabel (index x))))))))))

abbrev pub unpacked : ℕ → Order
unpacked q = order_at (q % 16) (q / 16 % 16) (q / 256)
