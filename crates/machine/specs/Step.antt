-- Steps and runs of the machine, and code in memory.
use Rattle.std.specs.Prelude.{◌≡◌, Bool, true, cond, List, [], ◌∷◌, map, ℕ, suc, ◌+◌, ◌*◌, ◌%◌, ◌<◌, eqb, length, get_or}
use Rattle.std.proofs.Math.Option.{Option, some, none, bind}
use Rattle.isa.specs.Instr.{Instr}
use Rattle.isa.specs.Encode.{encode}
use Rattle.isa.specs.Decode.{decode}
use Rattle.machine.specs.Word.{w64, load4}
use Rattle.machine.specs.Floats.{Floats}
use Rattle.machine.specs.State.{State}
use Rattle.machine.specs.Effect.{access, exec}

-- The word at pc; none where pc is no multiple of 4.
unfoldable pub fetch : State → Option ℕ
fetch s = cond (eqb (s.pc % 4) 0) (some (load4 s.mem s.pc)) none

-- an access's address is a multiple of this
abbrev pub alignment : ℕ
alignment = 8

-- The test of the address, if there is one.
abbrev pub aligned : Option ℕ → Bool
aligned none = true
aligned (some a) = eqb (a % alignment) 0

-- ---- code in memory

-- The words ws stand at a, one behind another, addresses modulo 2^64.
abbrev pub CodeAt : (ℕ → ℕ) → ℕ → List ℕ → Type 0
CodeAt m a [] = Unit {0}
CodeAt m a (w ∷ ws) = (load4 m a ≡ w) × CodeAt m (w64 (a + 4)) ws

abbrev pub words : List Instr → List ℕ
words is = map encode is

-- x is the address of one of the n words from a on
abbrev pub Among : (a n : ℕ) → ℕ → Type 0
Among a n x = (k : ℕ) × (k < n) × (x ≡ w64 (a + 4 * k))

-- the bytes bs stand at a
abbrev pub Loaded : (ℕ → ℕ) → ℕ → List ℕ → Type 0
Loaded m a bs = (k : ℕ) → k < length bs → m (w64 (a + k)) ≡ get_or bs k 0

module _ (Q : Floats) where
  -- what an instruction makes of a state: none where it traps, by "an 8-byte access at an address that isn't a multiple of 8"
  abbrev pub executed : State → Instr → Option State
  executed s i = cond (aligned (access i s)) (some (exec Q i s)) none

  -- One step: no next state where pc is no multiple of 4, the word there is no instruction, or the instruction traps.
  unfoldable pub step : State → Option State
  step s = bind (bind (fetch s) decode) (executed s)

  -- n steps lead from one state to another
  pub data Run : State → ℕ → State → Type 0 where
    stop : {s : State} → Run s 0 s
    go : {s t u : State} {n : ℕ} → step s ≡ some t → Run t n u → Run s (suc n) u

  -- the same, and each state before the last has its pc in C
  pub record RunIn (C : ℕ → Type 0) (s : State) (n : ℕ) (t : State) : Type 0 where
    pub runs : Run s n t
    pub inside : (k : ℕ) (u : State) → k < n → Run s k u → C u.pc
