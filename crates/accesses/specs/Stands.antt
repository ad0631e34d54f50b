-- A machine at the words of a list of instructions, and behind them: the form in which the accesses' theorems are stated.
use Rattle.std.specs.Prelude.{◌≡◌, cond, List, [], ◌∷◌, ℕ, ◌+◌, ◌*◌, ◌%◌, ◌^◌, ◌<◌, ltb, ℤ, length}
use Rattle.isa.specs.Register.{t0}
use Rattle.isa.specs.Immediate.{twos}
use Rattle.isa.specs.Instr.{Instr}
use Rattle.machine.specs.Word.{w64, dist}
use Rattle.machine.specs.State.{State, Sound, getx, setx}
use Rattle.machine.specs.Floats.{Floats}
use Rattle.machine.specs.Step.{CodeAt, words, Among, RunIn}
use Rattle.accesses.specs.Code.{near}

-- s is a machine's state, and the words stand at its pc, a multiple of 4
pub record Stands (is : List Instr) (s : State) : Type 0 where
  pub sound : Sound s
  pub aligned : s.pc % 4 ≡ 0
  pub code : CodeAt s.mem s.pc (words is)

-- the run from s to t: a step for each word, and before t pc is at one of them
abbrev pub Goes : Floats → List Instr → State → State → Type 0
Goes Q is s t = RunIn Q (Among s.pc (length is)) s (length is) t

-- behind the words, with registers x, float registers f and memory m; the rounding mode is kept
abbrev pub behind : List Instr → State → (x f m : ℕ → ℕ) → State
behind is s x f m = record { pc = w64 (s.pc + 4 * length is); x = x; f = f; rm = s.rm; mem = m }

-- From every state at the words, whatever the float arithmetic is, the run goes behind them, and leaves these.
abbrev pub Leaves : List Instr → (x f m : State → ℕ → ℕ) → Type 0
Leaves is x f m = (Q : Floats) (s : State) → Stands is s → Goes Q is s (behind is s (x s) (f s) (m s))

-- ---- cells

-- where an access reads or writes
abbrev pub cell_at : State → (base offset : ℕ) → ℕ
cell_at s base n = w64 (getx s base + n)

-- the cell of a single access, and the two of a pair
abbrev pub one_cell : (base offset : ℕ) → State → List ℕ
one_cell base n s = cell_at s base n ∷ []

abbrev pub two_cells : (base offset : ℕ) → State → List ℕ
two_cells base n s = cell_at s base n ∷ cell_at s base (n + 8) ∷ []

-- each address is a multiple of 8
abbrev pub Eights : List ℕ → Type 0
Eights [] = Unit {0}
Eights (c ∷ cs) = (c % 8 ≡ 0) × Eights cs

-- What is asked of words that access these cells: "where its accesses are at multiples of 8" (document 02, point 7).
pub record Accessible (cells : List ℕ) : Type 0 where
  pub eights : Eights cells

-- `Leaves`, of words that access cells.
abbrev pub AccessLeaves : (cells : State → List ℕ) → List Instr → (x f m : State → ℕ → ℕ) → Type 0
AccessLeaves cells is x f m =
    (Q : Floats) (s : State) → Accessible (cells s) → Stands is s → Goes Q is s (behind is s (x s) (f s) (m s))

-- none of the eight bytes at a is one of the words'
abbrev pub Misses : (a : ℕ) → List Instr → State → Type 0
Misses a is s = (x : ℕ) → x < 2 ^ 64 → dist a x < 8 → dist s.pc x < 4 * length is → ⊥

-- registers as before, but t0 where an access computes it
abbrev pub with_t0 : (limit base offset : ℕ) → State → ℕ → ℕ
with_t0 limit base n s = cond (ltb n limit) s.x (setx s.x t0 (cell_at s base n))

-- registers as before, but t0 where a stack size is loaded into it
abbrev pub with_size : (size : ℕ) → ℤ → State → ℕ → ℕ
with_size n z s = cond (ltb n near) s.x (setx s.x t0 (twos 64 z))
