-- The limits of a single order's numbers, both sides of each; and a line that a deck takes is the same order by itself.
use mathlib.Core.Path.{◌≡◌, refl}
use mathlib.Core.Bool.{Bool, true, false}
use mathlib.Core.List.{[], ◌∷◌}
use mathlib.Core.Option.{some}
use Prim.Native.Nat.{ℕ, ◌≤◌}
use Prim.Native.String.{String}
use native.Mathlib.Omega.{arith}
use borrow.Author.Tests.{ltb-true, leb-true, le-leb}
use lib.Dec.{ltb, leb}
use lib.Ieee.{of_int, binary64}
use lib.IntN.{nat_abs}
use lib.ListN.{replicate}
use Rattle.refusal.specs.Answer.{Answer, accepted}
use Rattle.refusal.specs.declared.Refusal.{Refusal}
use Rattle.ast.specs.Counts.{counts_hold}
use Rattle.ast.specs.Uses.{uses, registers_fit}
use Rattle.ast.specs.declared.Order.{Order}
use Rattle.ast.specs.declared.Operand.{Operand}
use Rattle.ast.specs.declared.Constant.TheVariants as Constant
use Rattle.text.specs.Ascii.{bytes}
use Rattle.text.specs.Readers.{read_decimal, read_integer, read_word, read_from, split, same}
use Rattle.base.proofs.Bools.{both}
use Rattle.form.specs.Text.{DeckLine}
use Rattle.form.specs.Text as Text
use Rattle.form.specs.Grammar.{said}
use Rattle.form.specs.Inner.Read.{first, read_values, read}
use Rattle.deck.specs.Judge.{Content, head, order, constant, demand, operand_judged, judged}
use Rattle.assembler.specs.State.{State, state, sound, fits}
use Rattle.assembler.specs.Put.{words, jumps, targets, labels, twice, settled, ranked, put}
use Rattle.accesses.specs.Code.{access_code, point_code, li_code}
use Rattle.orders.specs.Code.{code, line_code, unary_code}
use Rattle.orders.specs.Fault.{fault}
use Rattle.handheld.specs.Numbers.{number}
use Rattle.handheld.specs.Single.{field, capped, says, line_put, constant_put}
use Rattle.handheld.specs.declared.Said.TheVariants as Said

-- ---- the limits

-- nothing written, and room for twelve words
abbrev fresh : State
fresh = state (record { len = 0; jumps = 0; closed = false }) [] [] (replicate 48 0)

abbrev of_order : String → ℕ
of_order t = number (line_put 0 (said (bytes t)) fresh).answer

abbrev of_constant : ℕ → String → ℕ
of_constant k t = number (constant_put k (said (bytes t)) fresh).answer

pub cells : (of_order "get,0,mem,4095\n" ∷ of_order "get,0,mem,4096\n" ∷ of_order "put,0,stack,268435455\n" ∷ of_order "put,0,stack,268435456\n" ∷ of_order "ifelse,0,1,2,100000000000000000000000000000\n" ∷ []) ≡ (0 ∷ 0 ∷ 0 ∷ 2 ∷ 2 ∷ [])
unfolding line_put says said read split first same read_values read_decimal read_from put settled ranked fault sound fits twice labels jumps targets words code access_code point_code li_code
cells = refl

pub others : (of_order "not,31,31\n" ∷ of_order "not,31,32\n" ∷ of_order "label,1023\n" ∷ of_order "label,1024\n" ∷ of_order "load_const,0,1007\n" ∷ of_order "load_const,0,1008\n" ∷ []) ≡ (0 ∷ 1 ∷ 0 ∷ 3 ∷ 0 ∷ 9 ∷ [])
unfolding line_put says said read split first same read_values read_decimal read_from put settled ranked fault sound fits twice labels jumps targets words code line_code unary_code
others = refl

pub constants : (of_constant 1007 "float,9007199254740992\n" ∷ of_constant 1007 "float,9007199254740993\n" ∷ of_constant 1008 "bits,8000000000000000\n" ∷ of_constant 0 "label,0\n" ∷ []) ≡ (0 ∷ 2 ∷ 9 ∷ 12 ∷ [])
unfolding constant_put says said read split first same read_values read_decimal read_integer read_word read_from judged put settled ranked sound fits twice labels jumps targets words
constants = refl

-- ---- a deck's orders

low : (n : ℕ) → n ≤ 4294967295 → field n ≡ n
low n h = rw (le-leb n 4294967295 h)

register_low : (n : ℕ) → ltb n 32 ≡ true → field n ≡ n
register_low n e = low n (omega (arith, ltb-true n 32 e))

one : (a : ℕ) → registers_fit (a ∷ []) ≡ true → field a ≡ a
one a e = register_low a (both (ltb a 32) true e).0

two : (a b : ℕ) → registers_fit (a ∷ b ∷ []) ≡ true → (field a ≡ a) × (field b ≡ b)
two a b e = let g = both (ltb a 32) (registers_fit (b ∷ [])) e in (register_low a g.0, one b g.1)

three : (a b c : ℕ) → registers_fit (a ∷ b ∷ c ∷ []) ≡ true → (field a ≡ a) × (field b ≡ b) × (field c ≡ c)
three a b c e = let g = both (ltb a 32) (registers_fit (b ∷ c ∷ [])) e in let h = two b c g.1 in (register_low a g.0, h.0, h.1)

-- the operand that is no register is a small number
abbrev Low : Operand → Type 0
Low Operand.Nothing = Unit {0}
Low (Operand.Loaded p i) = field i ≡ i
Low (Operand.Stored p i) = field i ≡ i
Low (Operand.Constant k) = field k ≡ k
Low (Operand.GoneTo l) = field l ≡ l
Low (Operand.Set l) = field l ≡ l

-- an accepted order passed its tests
passed : (t : Bool) (r : Refusal) (a : Answer Content) (o : Order) → demand t r a ≡ accepted (order o) → (t ≡ true) × (a ≡ accepted (order o))
passed true r a o e = (refl, e)
passed false r a o e = absurd (let z : ◌≡◌ {A = ℕ} 0 1 = cc in omega arith)

operand_passed : (x : Operand) (a : Answer Content) (o : Order) → operand_judged x a ≡ accepted (order o) → Low x × (a ≡ accepted (order o))
operand_passed Operand.Nothing a o e = (tt, e)
operand_passed (Operand.Loaded p i) a o e = let q = passed (ltb i 4096) Refusal.Count a o e in (low i (omega (arith, ltb-true i 4096 q.0)), q.1)
operand_passed (Operand.Stored p i) a o e = let q = passed (ltb i 4096) Refusal.Count a o e in (low i (omega (arith, ltb-true i 4096 q.0)), q.1)
operand_passed (Operand.Constant k) a o e = let q = passed (ltb k 1008) Refusal.Count a o e in (low k (omega (arith, ltb-true k 1008 q.0)), q.1)
operand_passed (Operand.GoneTo l) a o e = let q = passed (leb l 1023) Refusal.Label a o e in (low l (omega (arith, leb-true l 1023 q.0)), q.1)
operand_passed (Operand.Set l) a o e = let q = passed (leb l 1023) Refusal.Label a o e in (low l (omega (arith, leb-true l 1023 q.0)), q.1)

capped_same : (p : Order) → registers_fit (uses p).registers ≡ true → Low (uses p).operand → capped p ≡ p
capped_same (Order.Unary u d s) e x = let v = two d s e in rw (v.0, v.1)
capped_same (Order.Scratched u d s t) e x = let v = three d s t e in rw (v.0, v.1, v.2)
capped_same (Order.Binary u d a b) e x = let v = three d a b e in rw (v.0, v.1, v.2)
capped_same (Order.Fused u d a b c) e x = let g = both (ltb d 32) (registers_fit (a ∷ b ∷ c ∷ [])) e in let v = three a b c g.1 in rw (register_low d g.0, v.0, v.1, v.2)
capped_same (Order.Ifelse d a b i) e x = let v = three d a b e in rw (v.0, v.1, v.2, x)
capped_same (Order.LoadConst d k) e x = rw (one d e, x)
capped_same (Order.Load d p i) e x = rw (one d e, x)
capped_same (Order.Save s p i) e x = rw (one s e, x)
capped_same (Order.BranchIf c l b) e x = rw (one c e, x)
capped_same (Order.SetLabel l) e x = rw x

-- a line that a deck takes as an order is that order by itself
pub same_order : (l : DeckLine) (o : Order) → judged l ≡ accepted (order o) → says (some l) ≡ Said.Order o
unfolding judged says
same_order (Text.head H) o e =
    let p = passed (ltb H.mask 4294967296) Refusal.Value _ o e in
    let q = passed (counts_hold H) Refusal.Count (accepted (head H)) o p.1 in
    absurd (let z : ◌≡◌ {A = ℕ} 0 1 = cc in omega arith)
same_order (Text.order p) o e =
    let q = passed (registers_fit (uses p).registers) Refusal.Register _ o e in
    let r = operand_passed (uses p).operand (accepted (order p)) o q.1 in
    let z : p ≡ o = cc in
    rw (capped_same p q.0 r.0, z)
same_order (Text.float z) o e = absurd (let p = passed (leb (nat_abs z) 9007199254740992) Refusal.Value (accepted (constant (Constant.Float (of_int binary64 z)))) o e in let y : ◌≡◌ {A = ℕ} 0 1 = cc in omega arith)
same_order (Text.bits n) o e = absurd (let z : ◌≡◌ {A = ℕ} 0 1 = cc in omega arith)
