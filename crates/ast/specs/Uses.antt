-- What each order uses, beside its meaning and its code (document 01, "Numbers of refusal" and "Count").
use Rattle.std.specs.Prelude.{Bool, true, ◌&&◌, cond, List, [], ◌∷◌, ℕ, eqb, ltb, get_or, Option, Some, None}
use Rattle.std.proofs.Math.Option as M
use Rattle.std.proofs.Math.Option.{some, none}
use Rattle.base.specs.Tests.{all}
use Rattle.ast.specs.Count.{cell_count}
use Rattle.ast.specs.Mask.{free, open_cell}
use Rattle.ast.specs.declared.Place.TheVariants.{Stack}
use Rattle.ast.specs.declared.Unary as U
use Rattle.ast.specs.declared.Unary.TheVariants.{Fmov, Recip, Round, Floor, Not}
use Rattle.ast.specs.declared.Head.{Head}
use Rattle.ast.specs.declared.Order.{Order}
use Rattle.ast.specs.declared.Order.TheVariants.{Unary, Scratched, Binary, Fused, Ifelse, LoadConst, Load, Save, BranchIf, SetLabel}
use Rattle.ast.specs.declared.Operand.{Operand}
use Rattle.ast.specs.declared.Operand.TheVariants.{Nothing, Loaded, Stored, Constant, GoneTo, Set}
use Rattle.ast.specs.declared.View.{View}

pub record Uses : Type 0 where
  -- the float registers that it names
  pub registers : List ℕ
  -- the float registers that it writes
  pub writes : List ℕ
  -- its operand that is no register
  pub operand : Operand

abbrev pub used : (registers writes : List ℕ) → Operand → Uses
used rs ws o = record { registers = rs; writes = ws; operand = o }

-- "`fmov` of a register to itself writes nothing"; `recip` writes f10 too
abbrev pub unary_writes : U.Unary → (d s : ℕ) → List ℕ
unary_writes Fmov d s = cond (eqb d s) [] (d ∷ [])
unary_writes Recip d s = 10 ∷ d ∷ []
unary_writes Round d s = d ∷ []
unary_writes Floor d s = d ∷ []
unary_writes Not d s = d ∷ []

abbrev pub uses : Order → Uses
uses (Unary k d s) = used (d ∷ s ∷ []) (unary_writes k d s) Nothing
uses (Scratched k d s t) = used (d ∷ s ∷ t ∷ []) (t ∷ d ∷ []) Nothing
uses (Binary k d a b) = used (d ∷ a ∷ b ∷ []) (d ∷ []) Nothing
uses (Fused k d a b c) = used (d ∷ a ∷ b ∷ c ∷ []) (d ∷ []) Nothing
uses (Ifelse d a b i) = used (d ∷ a ∷ b ∷ []) (d ∷ []) (Loaded Stack i)
uses (LoadConst d k) = used (d ∷ []) (d ∷ []) (Constant k)
uses (Load d p i) = used (d ∷ []) (d ∷ []) (Loaded p i)
uses (Save s p i) = used (s ∷ []) [] (Stored p i)
uses (BranchIf c l e) = used (c ∷ []) [] (GoneTo l)
uses (SetLabel l) = used [] [] (Set l)

-- 1: registers are below 32
abbrev pub registers_fit : List ℕ → Bool
registers_fit rs = all (λ r. ltb r 32) rs

-- ---- 9: "a cell index below its count"

abbrev pub operand_within : Head → Operand → Bool
operand_within H Nothing = true
operand_within H (Loaded p i) = ltb i (cell_count H p)
operand_within H (Stored p i) = ltb i (cell_count H p)
operand_within H (Constant k) = true
operand_within H (GoneTo l) = true
operand_within H (Set l) = true

abbrev pub index_holds : Head → Order → Bool
index_holds H o = operand_within H (uses o).operand

-- ---- 11: "a routine's order writes f8, f9 or f18..f27 outside the mask, or stores to a stack cell holding a saved one"

abbrev pub operand_open : (mask : ℕ) → Operand → Bool
operand_open mask Nothing = true
operand_open mask (Loaded p i) = true
operand_open mask (Stored p i) = open_cell mask p i
operand_open mask (Constant k) = true
operand_open mask (GoneTo l) = true
operand_open mask (Set l) = true

abbrev pub saves_hold : (mask : ℕ) → Order → Bool
saves_hold mask o = all (free mask) (uses o).writes && operand_open mask (uses o).operand

-- ---- labels, and what a line counts for

-- the label that is set
abbrev pub label_set : Operand → M.Option ℕ
label_set Nothing = none
label_set (Loaded p i) = none
label_set (Stored p i) = none
label_set (Constant k) = none
label_set (GoneTo l) = none
label_set (Set l) = some l

abbrev pub sets : Order → M.Option ℕ
sets o = label_set (uses o).operand

-- 1 for an order, 0 for `label`
abbrev pub weighs : (sets : M.Option ℕ) → ℕ
weighs none = 1
weighs (some l) = 0

-- ---- as the code has it: 0 for a register that it has not, and two places for those that it writes

abbrev pub first_of : List ℕ → Option ℕ
first_of [] = None
first_of (r ∷ rs) = Some r

abbrev pub second_of : List ℕ → Option ℕ
second_of [] = None
second_of (r ∷ rs) = first_of rs

abbrev pub padded : Uses → View
padded u =
    record {
      registers = get_or u.registers 0 0 ∷ get_or u.registers 1 0 ∷ get_or u.registers 2 0 ∷ get_or u.registers 3 0 ∷ [];
      writes = first_of u.writes ∷ second_of u.writes ∷ [];
      operand = u.operand;
    }
