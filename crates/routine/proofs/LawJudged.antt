-- A line that is judged good has no fault left for what is placed. Assumes nothing.
use mathlib.Core.Path.{◌≡◌, refl}
use mathlib.Core.Bool.{Bool, true, false, beq}
use mathlib.Core.Option.{Option, some, none}
use Prim.Native.Nat.{ℕ, ◌*◌}
use native.Mathlib.Omega.{arith}
use borrow.Author.Tests.{le-leb, ltb-true}
use lib.Dec.{ltb, leb}
use lib.IntN.{nat_abs}
use Rattle.base.proofs.Bools.{both}
use Rattle.refusal.specs.Answer.{Answer, accepted, refused}
use Rattle.refusal.specs.declared.Refusal.{Refusal}
use Rattle.ast.specs.Counts.{counts_hold, epilogue_holds, cap_holds}
use Rattle.ast.specs.Uses.{uses, registers_fit}
use Rattle.ast.specs.declared.Head.{Head}
use Rattle.ast.specs.declared.Operand.{Operand}
use Rattle.ast.specs.declared.Operand.TheVariants.{Nothing, Loaded, Stored, Constant, GoneTo, Set}
use Rattle.form.specs.Text.{DeckLine}
use Rattle.form.specs.Text as Text
use Rattle.deck.specs.Judge.{Content, demand, operand_judged, judged, is_head, line_judged}
use Rattle.deck.specs.Judge as Deck
use Rattle.accesses.specs.Fault.{offset_limit}
use Rattle.orders.specs.Fault.{operand_fault, fault}

-- what an answer says of its content
abbrev pub Said : Answer Content → Type 0
Said (refused n place) = Unit {0}
Said (accepted (Deck.head h)) = epilogue_holds h ≡ true
Said (accepted (Deck.order o)) = fault o ≡ 0
Said (accepted (Deck.constant c)) = Unit {0}

demanded : (t : Bool) (r : Refusal) (a : Answer Content) → (t ≡ true → Said a) → Said (demand t r a)
demanded true r a f = f refl
demanded false r a f = tt

-- ---- operands

index_low : (i : ℕ) → ltb i 4096 ≡ true → leb (8 * i) offset_limit ≡ true
index_low i e = le-leb (8 * i) offset_limit (omega (arith, ltb-true i 4096 e))

constant_low : (k : ℕ) → ltb k 1008 ≡ true → leb k 1007 ≡ true
constant_low k e = le-leb k 1007 (omega (arith, ltb-true k 1008 e))

operand_said : (x : Operand) (a : Answer Content) → (operand_fault x ≡ 0 → Said a) → Said (operand_judged x a)
operand_said Nothing a f = f refl
operand_said (Loaded p i) a f = demanded (ltb i 4096) Refusal.Count a (λ e. f (rw (index_low i e)))
operand_said (Stored p i) a f = demanded (ltb i 4096) Refusal.Count a (λ e. f (rw (index_low i e)))
operand_said (Constant k) a f = demanded (ltb k 1008) Refusal.Count a (λ e. f (rw (constant_low k e)))
operand_said (GoneTo l) a f = demanded (leb l 1023) Refusal.Label a (λ e. f (rw e))
operand_said (Set l) a f = demanded (leb l 1023) Refusal.Label a (λ e. f (rw e))

-- ---- lines

head_said : (h : Head) → counts_hold h ≡ true → epilogue_holds h ≡ true
unfolding counts_hold
head_said h e = (both (epilogue_holds h) (cap_holds h) e).0

judged_said : (l : DeckLine) → Said (judged l)
unfolding judged fault
judged_said (Text.head H) =
    demanded (ltb H.mask 4294967296) Refusal.Value _ (λ e. demanded (counts_hold H) Refusal.Count (accepted (Deck.head H)) (head_said H))
judged_said (Text.order o) =
    demanded (registers_fit (uses o).registers) Refusal.Register _
    (λ e. operand_said (uses o).operand (accepted (Deck.order o)) (λ g. rw (e, g)))
judged_said (Text.float z) = demanded (leb (nat_abs z) 9007199254740992) Refusal.Value _ (λ e. tt)
judged_said (Text.bits n) = tt

pub line_said : (first : Bool) (o : Option DeckLine) → Said (line_judged first o)
unfolding line_judged
line_said first none = tt
line_said first (some l) = demanded (beq (is_head l) first) Refusal.Line (judged l) (λ e. judged_said l)
