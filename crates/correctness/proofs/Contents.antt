-- What an accepted line has.
use mathlib.Core.Path.{◌≡◌, refl, subst}
use mathlib.Core.Bool.{Bool, true, false, beq}
use mathlib.Core.Option.{Option, some, none}
use mathlib.Core.List.{List}
use Prim.Native.Nat.{ℕ, ◌^◌, ◌<◌}
use lib.Dec.{T, ltb, leb}
use lib.Ieee.{of_int, binary64}
use lib.Ieee.Bits.{to_bits-lt}
use lib.Ieee.Fits.{of_int-fits}
use lib.IntN.{nat_abs}
use Rattle.refusal.specs.Answer.{Answer, accepted, refused}
use Rattle.refusal.specs.declared.Refusal.{Refusal}
use Rattle.ast.specs.Counts.{counts_hold, epilogue_holds, cap_holds}
use Rattle.ast.specs.Constant.{constant_bits}
use Rattle.ast.specs.Uses.{uses, registers_fit}
use Rattle.ast.specs.declared.Head.{Head}
use Rattle.ast.specs.declared.Operand.{Operand}
use Rattle.base.proofs.Bools.{both}
use Rattle.form.specs.Text.{DeckLine, Fits}
use Rattle.form.specs.Text as Text
use Rattle.form.specs.Grammar.{said}
use Rattle.form.proofs.Grammar.{grammar}
use Rattle.deck.specs.Judge.{Content, head, order, constant, demand, operand_judged, judged, is_head, line_judged}
use Rattle.orders.specs.Fault.{fault}
use Rattle.routine.proofs.LawJudged.{Said, line_said}
use Rattle.correctness.proofs.Accepts.{operand_cases}

-- what an answer says of its content, beside `LawJudged`
abbrev Rest : Answer Content → Type 0
Rest (refused n place) = Unit {0}
Rest (accepted (head h)) = T (cap_holds h)
Rest (accepted (order o)) = Unit {0}
Rest (accepted (constant c)) = constant_bits c < 2 ^ 64

demanded : (t : Bool) (r : Refusal) (a : Answer Content) → (t ≡ true → Rest a) → Rest (demand t r a)
demanded true r a f = f refl
demanded false r a f = tt

-- ---- line 1

cap_fits : (h : Head) → counts_hold h ≡ true → T (cap_holds h)
unfolding counts_hold
cap_fits h e = rw (both (epilogue_holds h) (cap_holds h) e).1 tt

-- ---- all lines

operand_rest : (x : Operand) (a : Answer Content) → Rest a → Rest (operand_judged x a)
operand_rest x a h = operand_cases Rest a h (λ t. demanded t Refusal.Count a (λ e. h)) (λ t. demanded t Refusal.Label a (λ e. h)) x

judged_rest : (l : DeckLine) → Fits l → Rest (judged l)
unfolding judged
judged_rest (Text.head H) b = demanded (ltb H.mask 4294967296) Refusal.Value _ (λ e. demanded (counts_hold H) Refusal.Count (accepted (head H)) (cap_fits H))
judged_rest (Text.order o) b = demanded (registers_fit (uses o).registers) Refusal.Register _ (λ e. operand_rest (uses o).operand (accepted (order o)) tt)
judged_rest (Text.float z) b = demanded (leb (nat_abs z) 9007199254740992) Refusal.Value _ (λ e. to_bits-lt binary64 (of_int binary64 z) (of_int-fits binary64 z))
judged_rest (Text.bits n) b = b

-- 16 hexadecimal digits are below 2^64, by the grammar
line_rest : (first : Bool) (s : List ℕ) → Rest (line_judged first (said s))
unfolding line_judged
line_rest first s = by (said s) refl
  where
    by : (o : Option DeckLine) → said s ≡ o → Rest (line_judged first o)
    by none e = tt
    by (some l) e = demanded (beq (is_head l) first) Refusal.Line (judged l) (λ g. judged_rest l (grammar.0 s l e).0)

-- ---- what an accepted line has

abbrev pub Fit : Content → Type 0
Fit (head h) = T (epilogue_holds h) × T (cap_holds h)
Fit (order o) = fault o ≡ 0
Fit (constant c) = constant_bits c < 2 ^ 64

pub line_fits : (first : Bool) (s : List ℕ) (c : Content) → line_judged first (said s) ≡ accepted c → Fit c
line_fits first s c e = by c (subst Said e (line_said first (said s))) (subst Rest e (line_rest first s))
  where
    by : (c : Content) → Said (accepted c) → Rest (accepted c) → Fit c
    by (head h) a b = (rw a tt, b)
    by (order o) a b = a
    by (constant k) a b = b
