-- What it is for a machine to do what an order means, and that it does (document 01, demand 2).
use Rattle.std.specs.Prelude.{◌≡◌, List, [], ◌∷◌, ℕ, ◌+◌, ◌*◌, ◌%◌, ◌≤◌, length}
use Rattle.machine.specs.Word.{w64, load8, store8}
use Rattle.machine.specs.Floats.{Floats}
use Rattle.machine.specs.State.{State, Sound}
use Rattle.machine.specs.Step.{CodeAt}
use Rattle.machine.specs.Ends.{temporary, Ends}
use Rattle.ast.specs.Constant.{constant_label}
use Rattle.ast.specs.declared.Place.{Place}
use Rattle.ast.specs.declared.Order.{Order}
use Rattle.ast.specs.declared.Operand.{Operand}
use Rattle.ast.specs.declared.Operand.TheVariants.{Nothing, Loaded, Stored, Constant, GoneTo, Set}
use Rattle.ast.specs.Uses.{uses}
use Rattle.assembler.specs.Item.{Item}
use Rattle.assembler.specs.Resolved.{resolved}
use Rattle.accesses.specs.Stands.{cell_at, Accessible}
use Rattle.reading.specs.Meaning.{Exit, on, to, Written, meaning}
use Rattle.orders.specs.Code.{base, code}
use Rattle.orders.specs.Fault.{fault}

-- ---- cells by address; they may alias

abbrev pub cell : State → Place → ℕ → ℕ
cell s p i = cell_at s (base p) (8 * i)

abbrev pub cell_value : State → Place → ℕ → ℕ
cell_value s p i = load8 s.mem (cell s p i)

-- memory with the cells written in turn; s says where they are
abbrev pub written : State → List Written → (ℕ → ℕ) → ℕ → ℕ
written s [] m = m
written s (w ∷ ws) m = written s ws (store8 m (cell s w.place w.index) w.bits)

-- ---- where labels are: the code's start, and each label's place from there

-- every place is in the 65,536 bytes at a multiple of 4, or at their end
pub record Placed (places : ℕ → ℕ) : Type 0 where
  pub small : (l : ℕ) → places l ≤ 65536
  pub aligned : (l : ℕ) → places l % 4 ≡ 0

module _ (places : ℕ → ℕ) (start : ℕ) where
  -- the constant's cell stands at its label
  abbrev pub const_cell : ℕ → ℕ
  const_cell k = w64 (start + places (constant_label k))

  abbrev pub const_value : State → ℕ → ℕ
  const_value s k = load8 s.mem (const_cell k)

  -- the cells that an order accesses, by its operand
  abbrev pub accessed : State → Operand → List ℕ
  accessed s Nothing = []
  accessed s (Loaded p i) = cell s p i ∷ []
  accessed s (Stored p i) = cell s p i ∷ []
  accessed s (Constant k) = const_cell k ∷ []
  accessed s (GoneTo l) = []
  accessed s (Set l) = []

  -- s stands at the items' words, as finishing leaves them, `here` bytes from the start
  pub record At (here : ℕ) (is : List Item) (s : State) : Type 0 where
    pub sound : Sound s
    pub start_aligned : start % 4 ≡ 0
    pub here_aligned : here % 4 ≡ 0
    pub here_small : here ≤ 65536
    pub pc : s.pc ≡ w64 (start + here)
    pub code : CodeAt s.mem s.pc (resolved places here is)

  -- the address of an exit, behind n words or at a label
  abbrev pub exit_address : State → ℕ → Exit → ℕ
  exit_address s n on = w64 (s.pc + 4 * n)
  exit_address s n (to l) = w64 (start + places l)

  -- A run of no more steps than the items have words, and at those alone, comes to the exit, with these float registers and this memory;
  -- the rounding mode and every register but t0, t1 and t2 are as before.
  pub record Done (Q : Floats) (here : ℕ) (is : List Item) (s : State) (f m : ℕ → ℕ) (exit : Exit) : Type 0 where
    pub count : ℕ
    pub few : count ≤ length (resolved places here is)
    pub ends : Ends Q temporary s (length (resolved places here is)) count (exit_address s (length (resolved places here is)) exit) f m

  -- the same of what an order means
  abbrev pub OrderDoes : Floats → (here : ℕ) → Order → State → Type 0
  OrderDoes Q here o s =
      let M = meaning Q s.f s.rm (cell_value s) (const_value s) o in
      Done Q here (code o) s M.f (written s M.cells s.mem) M.exit

-- DEMAND 2: the words of an accepted order do what the order means, from every state that stands at them, wherever they stand,
-- "where its accesses are at multiples of 8" (document 02, point 7). s1, s4, s5 and memory are arbitrary otherwise.
abbrev pub Claim : Type 0
Claim =
    (Q : Floats) (places : ℕ → ℕ) → Placed places → (start here : ℕ) (o : Order) → fault o ≡ 0 → (s : State)
    → At places start here (code o) s
    → Accessible (accessed places start s (uses o).operand)
    → OrderDoes places start Q here o s
