-- The plain reading of a file (document 01, "The machine and the terms of a call"): no word of code, no register but floats.
use Rattle.std.specs.Prelude.{◌≡◌, Bool, cond, ◌&&◌, List, [], ◌∷◌, ℕ, suc, ◌+◌, ◌≤◌, ◌<◌, eqb, length, get_or}
use Rattle.std.proofs.Math.Option.{Option, some}
use Rattle.std.proofs.Math.ListN.{get_elem?}
use Rattle.machine.specs.Floats.{Floats}
use Rattle.ast.specs.declared.Place.{Place}
use Rattle.ast.specs.declared.Place.TheVariants.{Mem, Stack, Param}
use Rattle.ast.specs.declared.Constant.{Constant}
use Rattle.ast.specs.declared.Order.{Order}
use Rattle.ast.specs.declared.Order.TheVariants.{BranchIf}
use Rattle.reading.specs.Meaning.{Exit, on, to, Written, Meaning, meaning}
use Rattle.reading.specs.Line.{Line, order, constant, weight}
use Rattle.reading.specs.Program.{Program, constants, label_line}

-- "It keeps a line, the float registers, the rounding mode, the cells of `mem`, `stack` and `param`, and the bytes of the observation
-- cells." Those bytes stand at their addresses.
pub record Reading : Type 0 where
  pub line : ℕ
  pub f : ℕ → ℕ
  pub rm : ℕ
  pub cells : Place → ℕ → ℕ
  pub obs : ℕ → ℕ

abbrev pub place_number : Place → ℕ
place_number Mem = 0
place_number Stack = 1
place_number Param = 2

abbrev pub same_place : Place → Place → Bool
same_place p q = eqb (place_number p) (place_number q)

-- the cells with one of them written
unfoldable pub with_cell : Written → (Place → ℕ → ℕ) → Place → ℕ → ℕ
with_cell w cells p i = cond (same_place p w.place && eqb i w.index) w.bits (cells p i)

-- one after the other
abbrev pub with_cells : List Written → (Place → ℕ → ℕ) → Place → ℕ → ℕ
with_cells [] cells = cells
with_cells (w ∷ ws) cells = with_cells ws (with_cell w cells)

-- "a `branch` whose test holds goes on at its label's line"; else the line behind line n
abbrev pub goes : List Line → (n : ℕ) → Exit → Option ℕ
goes ls n on = some (suc n)
goes ls n (to l) = label_line l 0 ls

module _ (Q : Floats) (p : Program) where
  -- "`load_const` the bits of constant k"
  abbrev pub const : ℕ → ℕ
  const k = get_or (constants p.lines) k 0

  abbrev pub means : Order → Reading → Meaning
  means o r = meaning Q r.f r.rm r.cells const o

  -- the reading at line n with what an order left
  abbrev pub with_meaning : (n : ℕ) → Meaning → Reading → Reading
  with_meaning n m r = record { line = n; f = m.f; rm = r.rm; cells = with_cells m.cells r.cells; obs = r.obs }

  abbrev pub passed : Reading → Reading
  passed r = record { line = suc r.line; f = r.f; rm = r.rm; cells = r.cells; obs = r.obs }

  -- "Each step does one line on what the last left"; "`label`, `float` and `bits` alter nothing".
  pub data Step : Reading → Line → Reading → Type 0 where
    does :
        {r : Reading} {o : Order} {n : ℕ}
        → goes p.lines r.line (means o r).exit ≡ some n
        → Step r (order o) (with_meaning n (means o r) r)
    passes : {r : Reading} {c : Constant} → Step r (constant c) (passed r)

  -- From one reading to another: n is the sum of the weights of the lines read, 1 for an order and 0 for `label`, `float` and `bits`.
  pub data Reads : Reading → (n : ℕ) → Reading → Type 0 where
    none_read : {r : Reading} → Reads r 0 r
    line_read :
        {r s t : Reading} {l : Line} {n : ℕ}
        → get_elem? p.lines r.line ≡ some l
        → Step r l s
        → Reads s n t
        → Reads r (weight l + n) t

-- "Behind the last line"
abbrev pub Ended : Program → Reading → Type 0
Ended p r = length p.lines ≤ r.line

-- THE plain reading: from one start no two end, so each theorem that says what a reading's end is says it of the one.
-- Proved as `one_reading` (`proofs`, module One).
abbrev pub OneReading : Type 0
OneReading =
    (Q : Floats) (p : Program) (a : Reading)
    → (n : ℕ) (r : Reading)
    → Reads Q p a n r
    → Ended p r
    → (m : ℕ) (q : Reading)
    → Reads Q p a m q
    → Ended p q
    → (n ≡ m) × (r ≡ q)

-- Branches go forward, by line numbers.
abbrev pub Forward : Program → Type 0
Forward p =
    (i : ℕ) (c l : ℕ) (e : Bool)
    → get_elem? p.lines i ≡ some (order (BranchIf c l e))
    → (j : ℕ)
    → label_line l 0 p.lines ≡ some j
    → i < j
