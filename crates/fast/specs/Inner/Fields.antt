-- The fields behind a name as one number.
use Rattle.std.specs.Prelude.{Bool, cond, List, [], ◌∷◌, ℕ, zero, suc, ◌+◌, ◌*◌, ◌%◌, eqb, ltb, get_or}
use Rattle.std.proofs.Math.Option.{Option, some, none, map}
use Rattle.base.specs.Tests.{member}
use Rattle.std.specs.Prelude as rust
use Rattle.std.specs.Prelude.{Some, None}
use Rattle.text.specs.Readers.{end_from}
use Rattle.text.specs.Inner.Short.{short_of, near_number}
use Rattle.ast.specs.declared.Place.{Place}
use Rattle.form.specs.Inner.Syntax.{flag}
use Rattle.form.specs.Text.{place_name}
use Rattle.form.specs.Inner.Read.{first, all_places}
use Rattle.form.specs.Inner.Parts.{only}
use Rattle.fast.specs.Inner.Packed.{place_number, flag_number, below}

-- ---- numbers

-- x, where it is below the bound
abbrev pub bounded : (bound x : ℕ) → Option ℕ
bounded b x = cond (ltb x b) (some x) none

-- the register in the field that starts at place a, where a comma ends it, and where the next field starts
abbrev pub register_read : List ℕ → (a : ℕ) → rust.Option (ℕ × ℕ)
register_read s a = cond (ltb (near_number s a) 32) (Some (near_number s a, end_from s a + 1)) None

-- a register below what stands behind it
abbrev pub onto : (x : ℕ) → Option ℕ → Option ℕ
onto x o = cond (ltb x 32) (map (below x) o) none

-- the last field, a number below the bound
abbrev pub last : (bound : ℕ) → List (List ℕ) → Option ℕ
last b [] = none
last b (f ∷ []) = bounded b (short_of f)
last b (f ∷ g ∷ fs) = none

-- k registers and the last field
unfoldable pub operands : (k bound : ℕ) → List (List ℕ) → Option ℕ
operands zero b fs = last b fs
operands (suc k) b [] = none
operands (suc k) b (f ∷ fs) = onto (short_of f) (operands k b fs)

-- ---- the ten shapes

-- of numbers alone
abbrev pub numeric : (shape : ℕ) → Bool
numeric k = member k (0 ∷ 1 ∷ 2 ∷ 3 ∷ 4 ∷ 7 ∷ 9 ∷ [])

-- how many registers stand before the last operand, and that one's bound
abbrev pub registers_of : (shape : ℕ) → ℕ
registers_of k = get_or (1 ∷ 2 ∷ 2 ∷ 3 ∷ 3 ∷ 0 ∷ 0 ∷ 1 ∷ 0 ∷ 0 ∷ []) k 0

abbrev pub bound_of : (shape : ℕ) → ℕ
bound_of k = cond (ltb k 7) (cond (ltb k 4) 32 4096) (cond (eqb k 7) 1008 1024)

-- the fields of such an order
abbrev pub numbers_packed : (shape : ℕ) → List (List ℕ) → Option ℕ
numbers_packed k fs = operands (registers_of k) (bound_of k) fs

-- behind the kind's code
abbrev pub behind : (code : ℕ) → Option ℕ → Option ℕ
behind c o = map (λ x. c + 256 * x) o

-- a register, a place and an index
abbrev pub with_place : (code : ℕ) → Option Place → Option ℕ → Option ℕ
with_place c none o = none
with_place c (some p) o = behind (c + 16 * place_number p) o

abbrev pub cell : (code : ℕ) → List (List ℕ) → Option ℕ
cell c [] = none
cell c (f ∷ []) = none
cell c (f ∷ g ∷ fs) = with_place c (first place_name g all_places) (onto (short_of f) (last 4096 fs))

-- a register, a label and 0 or 1
abbrev pub with_flag : (code : ℕ) → Option Bool → Option ℕ → Option ℕ
with_flag c none o = none
with_flag c (some e) o = behind (c + 16 * flag_number e) o

abbrev pub branch : (code : ℕ) → List (List ℕ) → Option ℕ
branch c [] = none
branch c (f ∷ []) = none
branch c (f ∷ g ∷ fs) = with_flag c (only flag fs) (onto (short_of f) (bounded 1024 (short_of g)))

-- a line with this code and these fields behind the name
unfoldable pub fields_packed : (code : ℕ) → List (List ℕ) → Option ℕ
fields_packed c fs =
    cond (numeric (c % 16)) (behind c (numbers_packed (c % 16) fs))
    (cond (ltb (c % 16) 7) (cell c fs)
    (cond (eqb (c % 16) 8) (branch c fs) none))
