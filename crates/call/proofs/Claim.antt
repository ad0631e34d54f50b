-- What a call of a program's words does: the theorem over programs, on which that over files (crate correctness) rests.
-- Proved in module Call.
use Prim.Native.Nat.{ℕ}
use Rattle.machine.specs.Floats.{Floats}
use Rattle.machine.specs.State.{State, Sound}
use Rattle.machine.specs.Step.{Loaded}
use Rattle.assembler.specs.Bytes.{bytes}
use Rattle.reading.specs.Program.{Program}
use Rattle.reading.specs.Plain.{Reading, Reads, Ended, Forward}
use Rattle.reading.specs.Terms.{start, Terms}
use Rattle.call.specs.Layout.{code_length, routine_words}
use Rattle.call.proofs.Good.{Good}
use Rattle.call.specs.Returned.{Returned}

-- The call at s: a machine's state, with the bytes of the program's words from pc on, under the terms of a call.
pub record Called (p : Program) (s : State) : Type 0 where
  pub sound : Sound s
  pub code : Loaded s.mem s.pc (bytes (routine_words p))
  pub terms : Terms p.head (code_length p) s

-- For every Floats, good program and call: where the plain reading from the call's start ends, the machine comes back as the reading says.
abbrev pub Claim : Type 0
Claim =
    (Q : Floats) (p : Program)
    → Good p
    → (s : State)
    → Called p s
    → (n : ℕ) (r : Reading)
    → Reads Q p (start p.head s) n r
    → Ended p r
    → Returned Q p (code_length p) s n r

-- And it ends where branches go forward.
abbrev pub ForwardClaim : Type 0
ForwardClaim =
    (Q : Floats) (p : Program)
    → Good p
    → Forward p
    → (s : State)
    → Called p s
    → (n : ℕ) × (r : Reading)
    × Reads Q p (start p.head s) n r
    × Ended p r
    × Returned Q p (code_length p) s n r
