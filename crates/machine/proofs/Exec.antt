-- Instructions done one after another, the state after so many steps, and the bytes of words: what proofs compute with.
use mathlib.Core.Path.{◌≡◌}
use mathlib.Core.Option.{Option, some, none, bind}
use mathlib.Core.List.{List, [], ◌∷◌}
use Prim.Native.Nat.{ℕ, zero, suc, ◌/◌, ◌%◌, ◌^◌}
use Rattle.isa.specs.Instr.{Instr}
use Rattle.isa.proofs.Validity.{Valid}
use Rattle.machine.specs.Floats.{Floats}
use Rattle.machine.specs.State.{State}
use Rattle.machine.specs.Effect.{access, exec}
use Rattle.machine.specs.Step.{alignment, step}

-- the bytes of words, little-endian
unfoldable pub bytes_of : List ℕ → List ℕ
bytes_of [] = []
bytes_of (w ∷ ws) = w % 256 ∷ w / 2 ^ 8 % 256 ∷ w / 2 ^ 16 % 256 ∷ w / 2 ^ 24 % 256 ∷ bytes_of ws

-- the address, if there is one, is a multiple of 8
abbrev pub OnEight : Option ℕ → Type 0
OnEight none = Unit {0}
OnEight (some a) = a % alignment ≡ 0

module _ (Q : Floats) where
  -- the state after n steps
  unfoldable pub run : ℕ → State → Option State
  run zero s = some s
  run (suc n) s = bind (step Q s) (run n)

  -- ---- instructions one after another, wherever their words stand

  abbrev pub execs : List Instr → State → State
  execs [] s = s
  execs (i ∷ is) s = execs is (exec Q i s)

  -- What the machine asks of instructions done from a state on.
  abbrev pub Fit : List Instr → State → Type 0
  Fit [] s = Unit {0}
  Fit (i ∷ is) s = Valid i × OnEight (access i s) × Fit is (exec Q i s)
