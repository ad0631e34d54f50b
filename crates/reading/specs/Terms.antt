-- The start and the end of the plain reading of a call, and the terms of a call (document 01, "The machine and the terms of a call").
use Rattle.std.specs.Prelude.{◌≡◌, Bool, not, cond, List, [], ◌∷◌, ℕ, zero, suc, ◌+◌, ◌-◌, ◌*◌, ◌%◌, ◌^◌, ◌≤◌, ◌<◌, T, eqb, ltb}
use Rattle.isa.specs.Register.{ra, sp, a0, a1, a2, a3}
use Rattle.ast.specs.Count.{cells, cell_count}
use Rattle.machine.specs.Word.{w64, upd, load8, store8}
use Rattle.machine.specs.State.{State}
use Rattle.ast.specs.declared.Place.{Place}
use Rattle.ast.specs.declared.Place.TheVariants.{Mem, Stack, Param}
use Rattle.ast.specs.declared.Head.{Head}
use Rattle.ast.specs.declared.Frame.{Frame}
use Rattle.ast.specs.declared.Frame.TheVariants.{Fast, Indirect}
use Rattle.reading.specs.Size.{uses_table, holds_mem, stack_size, whole_size}
use Rattle.ast.specs.Mask.{saved, save_cell}
use Rattle.reading.specs.Plain.{Reading}

-- ---- cells

-- from line 1 and the state s at the call
module _ (H : Head) (s : State) where
  -- an indirect frame, a1 not zero
  abbrev pub table_used : Bool
  table_used = uses_table H.frame (s.x a1)

  -- "The frame runs from the prologue's lowest sp up to the call's."
  abbrev pub frame_bytes : ℕ
  frame_bytes = whole_size H (s.x a1)

  abbrev pub bottom : ℕ
  bottom = w64 (s.x sp + (2 ^ 64 - frame_bytes))

  -- where the cells of a place start: `stack` at the bottom, `mem` above it or the block at a0, `param` at a3
  abbrev pub base : Place → ℕ
  base Mem = cond (holds_mem H.frame (s.x a1)) (w64 (bottom + stack_size H)) (s.x a0)
  base Stack = bottom
  base Param = s.x a3

  abbrev pub cell_address : Place → ℕ → ℕ
  cell_address p i = w64 (base p + 8 * i)

  -- what memory holds there at the call
  abbrev pub as_called : Place → ℕ → ℕ
  as_called p i = load8 s.mem (cell_address p i)

  -- "Such a cell lies at its pointer plus 8 × a2, modulo 2^64; the table has 16 bytes for each, states first, as `mem` has."
  abbrev pub table_cell : ℕ → ℕ
  table_cell i = w64 (load8 s.mem (w64 (s.x a1 + 16 * i)) + 8 * s.x a2)

  -- ---- the reading's start: "It starts behind prologue and saves"

  -- "f10 and up as called in a fast frame, the state cells' values where the table is used, else the block as it was"
  abbrev pub state_value : Frame → ℕ → ℕ
  state_value Fast i = s.f (10 + i)
  state_value Indirect i = cond (eqb (s.x a1) 0) (as_called Mem i) (load8 s.mem (table_cell i))

  -- "the saved ones included": the first of these registers whose cell it is, or what memory held
  abbrev pub stack_value : List ℕ → ℕ → ℕ
  stack_value [] i = as_called Stack i
  stack_value (r ∷ rs) i = cond (eqb (save_cell r) i) (s.f r) (stack_value rs i)

  abbrev pub start_cells : Place → ℕ → ℕ
  start_cells Mem i = cond (ltb i H.states) (state_value H.frame i) (as_called Mem i)
  start_cells Stack i = stack_value (saved H.mask) i
  start_cells Param i = as_called Param i

  -- "registers as the call gave them, save that f10 holds the last state where a table with states was read"
  abbrev pub start_f : (states : ℕ) → ℕ → ℕ
  start_f zero = s.f
  start_f (suc n) = cond table_used (upd s.f 10 (load8 s.mem (table_cell n))) s.f

  abbrev pub start : Reading
  start = record { line = 0; f = start_f H.states; rm = s.rm; cells = start_cells; obs = s.mem }

  -- ---- the reading's end

  -- "each observation cell in turn its `mem` cell": n of them from observation i on
  abbrev pub observed : (mem : ℕ → ℕ) → (i n : ℕ) → (bytes : ℕ → ℕ) → ℕ → ℕ
  observed mem i zero bytes = bytes
  observed mem i (suc n) bytes = observed mem (suc i) n (store8 bytes (table_cell (H.states + i)) (mem (H.states + i)))

  -- "where the table is used"
  abbrev pub end_obs : Reading → ℕ → ℕ
  end_obs r = cond table_used (observed (r.cells Mem) 0 H.obs r.obs) r.obs

-- ---- the terms

-- the bytes from a start on
pub record Region : Type 0 where
  pub start : ℕ
  pub size : ℕ

abbrev pub Within : Region → ℕ → Type 0
Within g x = (g.start ≤ x) × (x < g.start + g.size)

-- A region may end at 2^64. One of 0 bytes neither wraps nor overlaps.
abbrev pub Whole : Region → Type 0
Whole g = 0 < g.size → g.start + g.size ≤ 2 ^ 64

abbrev pub Disjoint : Region → Region → Type 0
Disjoint g h = (x : ℕ) → Within g x → Within h x → ⊥

abbrev pub Beside : Region → List Region → Type 0
Beside g [] = Unit {0}
Beside g (h ∷ hs) = Disjoint g h × Beside g hs

-- "don't wrap or overlap"
abbrev pub Separate : List Region → Type 0
Separate [] = Unit {0}
Separate (g ∷ gs) = Whole g × Beside g gs × Separate gs

-- the cell at a, modulo 2^64, touches none of them
abbrev pub Clear : ℕ → List Region → Type 0
Clear a [] = Unit {0}
Clear a (g ∷ gs) = ((k : ℕ) → k < 8 → Within g (w64 (a + k)) → ⊥) × Clear a gs

-- s is the state at the call
module _ (H : Head) (s : State) where
  abbrev pub frame : Region
  frame = record { start = bottom H s; size = frame_bytes H s }

  -- 8 bytes a parameter
  abbrev pub params : Region
  params = record { start = s.x a3; size = 8 * H.last }

  -- 8 bytes for each state and observation
  abbrev pub block : Region
  block = record { start = s.x a0; size = 8 * cells H }

  -- 16 bytes for each
  abbrev pub table : Region
  table = record { start = s.x a1; size = 16 * cells H }

-- the code: so many bytes from pc on, constants included
abbrev pub code : (code_bytes : ℕ) → State → Region
code code_bytes s = record { start = s.pc; size = code_bytes }

module _ (H : Head) (code_bytes : ℕ) (s : State) where
  -- "Code, frame below sp, and (in an indirect frame) the parameter block at a3"; with a1 zero the block at a0 joins, else the table
  abbrev pub regions : Frame → List Region
  regions Fast = code code_bytes s ∷ frame H s ∷ []
  regions Indirect = code code_bytes s ∷ frame H s ∷ params H s ∷ cond (eqb (s.x a1) 0) (block H s) (table H s) ∷ []

  pub record Terms : Type 0 where
    -- document 02, point 7: the code, the block where a0 is it, the table and its cells where it is used, the parameters if any,
    -- "at multiples of 8"
    pub code_aligned : s.pc % 8 ≡ 0
    pub block_aligned : T (not (holds_mem H.frame (s.x a1))) → s.x a0 % 8 ≡ 0
    pub table_aligned : T (table_used H s) → s.x a1 % 8 ≡ 0
    pub cells_aligned : T (table_used H s) → (i : ℕ) → i < cells H → table_cell H s i % 8 ≡ 0
    pub params_aligned : 0 < cell_count H Param → s.x a3 % 8 ≡ 0
    -- ra is "at a multiple of 4, ra outside the code; sp is a multiple of 16"
    pub ra_aligned : s.x ra % 4 ≡ 0
    pub ra_outside : Within (code code_bytes s) (s.x ra) → ⊥
    pub sp_aligned : s.x sp % 16 ≡ 0
    pub separate : Separate (regions H.frame)
    -- "no state cell touches the frame, and no observation cell touches code, frame, table or parameters"
    pub state_cells : T (table_used H s) → (i : ℕ) → i < H.states → Clear (table_cell H s i) (frame H s ∷ [])
    pub obs_cells : T (table_used H s) → (i : ℕ) → i < H.obs → Clear (table_cell H s (H.states + i)) (regions H.frame)
