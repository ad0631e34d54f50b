-- Validity and its test say the same. Assumes nothing.
use mathlib.Core.Path.{◌≡◌, refl}
use mathlib.Core.Bool.{true, ◌||◌}
use mathlib.Core.List.{List, [], ◌∷◌}
use Prim.Native.Nat.{ℕ, ◌-◌, ◌%◌, ◌^◌, ◌<◌}
use native.Mathlib.Omega.{arith}
use borrow.Author.Tests.{ltb-true, eqb-true, lt-ltb, eq-eqb}
use lib.Dec.{T, eqb, leb}
use lib.IntN.{pos, negsuc}
use lib.Signed.{mag}
use Rattle.isa.specs.Immediate.{twos}
use Rattle.base.proofs.Bools.{join, both, T_true, true_T}
use Rattle.isa.specs.Instr.{Instr, Operand, register, signed, offset, unsigned, rounding, free, fixed, holds, operands, registers_hold, valid}
use Rattle.base.specs.Tests.{all}
use Rattle.base.proofs.Each.{Each}

-- what `holds` and `valid` test, as propositions
abbrev pub Holds : Operand → Type 0
Holds (register r) = r < 32
Holds (signed w z) = mag z < 2 ^ (w - 1)
Holds (offset w z) = (mag z < 2 ^ (w - 1)) × (twos w z % 2 ≡ 0)
Holds (unsigned w (pos n)) = n < 2 ^ w
Holds (unsigned w (negsuc n)) = ⊥
Holds (rounding free m) = T (leb m 4 || eqb m 7)
Holds (rounding (fixed n) m) = m ≡ n

abbrev pub Valid : Instr → Type 0
Valid i = Each Holds (operands i)

pub holds_Holds : (o : Operand) → holds o ≡ true → Holds o
holds_Holds (register r) e = ltb-true _ _ e
holds_Holds (signed w z) e = ltb-true _ _ e
holds_Holds (offset w z) e = let q = both _ _ e in (ltb-true _ _ q.0, eqb-true _ _ q.1)
holds_Holds (unsigned w (pos n)) e = ltb-true _ _ e
holds_Holds (unsigned w (negsuc n)) e = let z : ◌≡◌ {A = ℕ} 0 1 = cc in absurd (omega arith)
holds_Holds (rounding free m) e = true_T _ e
holds_Holds (rounding (fixed n) m) e = eqb-true _ _ e

pub Holds_holds : (o : Operand) → Holds o → holds o ≡ true
Holds_holds (register r) h = lt-ltb _ _ h
Holds_holds (signed w z) h = lt-ltb _ _ h
Holds_holds (offset w z) h = join _ _ (lt-ltb _ _ h.0) (eq-eqb _ _ h.1)
Holds_holds (unsigned w (pos n)) h = lt-ltb _ _ h
Holds_holds (unsigned w (negsuc n)) h = absurd h
Holds_holds (rounding free m) h = T_true _ h
Holds_holds (rounding (fixed n) m) h = eq-eqb _ _ h

all_to : (os : List Operand) → all holds os ≡ true → Each Holds os
all_to [] e = tt
all_to (o ∷ os) e = let q = both (holds o) (all holds os) e in (holds_Holds o q.0, all_to os q.1)

all_from : (os : List Operand) → Each Holds os → all holds os ≡ true
all_from [] h = refl
all_from (o ∷ os) h = join (holds o) (all holds os) (Holds_holds o h.0) (all_from os h.1)

pub valid_Valid : (i : Instr) → valid i ≡ true → Valid i
valid_Valid i e = all_to (operands i) e

pub Valid_valid : (i : Instr) → Valid i → valid i ≡ true
Valid_valid i h = all_from (operands i) h

registers : (os : List Operand) → Each Holds os → registers_hold os ≡ true
registers [] h = refl
registers (register r ∷ os) h = join _ _ (lt-ltb _ _ h.0) (registers os h.1)
registers (signed w z ∷ os) h = registers os h.1
registers (offset w z ∷ os) h = registers os h.1
registers (unsigned w z ∷ os) h = registers os h.1
registers (rounding k m ∷ os) h = registers os h.1

-- a valid instruction's registers are in their fields
pub Valid_registers : (i : Instr) → Valid i → registers_hold (operands i) ≡ true
Valid_registers i h = registers (operands i) h
