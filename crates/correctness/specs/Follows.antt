-- What follows: an accepted file is one program, its code lies in the buffer in whole words, constants at multiples of 8, and depends on
-- neither the size nor the contents of the buffer.
-- Statements; proved in `proofs`.
use Rattle.std.specs.Prelude.{◌≡◌, List, ℕ, ◌%◌, ◌≤◌, ◌<◌, length, take}
use Rattle.refusal.specs.Answer.{accepted}
use Rattle.ast.specs.Count.{cell_count}
use Rattle.ast.specs.declared.Place.{Place}
use Rattle.machine.specs.Word.{load8}
use Rattle.machine.specs.Floats.{Floats}
use Rattle.machine.specs.State.{State}
use Rattle.machine.specs.Step.{Run}
use Rattle.reading.specs.Program.{Program}
use Rattle.reading.specs.Plain.{Reading, Reads}
use Rattle.reading.specs.Terms.{cell_address, start}
use Rattle.routine.specs.Routine.{program_of, Summary, Promise}
use Rattle.correctness.specs.Claim.{CallSetup}

-- An accepted file is some program.
abbrev pub ProgramClaim : Type 0
ProgramClaim =
    (file buf : List ℕ) (t : Summary) (after : List ℕ)
    → Promise file buf (accepted t) after
    → (p : Program) × (program_of (length buf) file ≡ accepted p)

-- An accepted file is one program, whatever the buffer's size.
abbrev pub OneProgram : Type 0
OneProgram =
    (m n : ℕ) (file : List ℕ) (p q : Program)
    → program_of m file ≡ accepted p
    → program_of n file ≡ accepted q
    → p ≡ q

-- An accepted routine depends on neither the size nor the contents of the buffer.
abbrev pub SameClaim : Type 0
SameClaim =
    (file buf buf' : List ℕ) (t t' : Summary) (after after' : List ℕ)
    → Promise file buf (accepted t) after
    → Promise file buf' (accepted t') after'
    → (t ≡ t') × (take t.length after ≡ take t'.length after')

-- Constants start at a multiple of 8 (document 02, point 7).
abbrev pub OffsetClaim : Type 0
OffsetClaim =
    (file buf : List ℕ) (t : Summary) (after : List ℕ)
    → Promise file buf (accepted t) after
    → 0 < t.constants
    → t.offset % 8 ≡ 0

-- The code is within the buffer and 65,536 bytes, constants start within it or at its end, and both have whole words.
abbrev pub ExtentClaim : Type 0
ExtentClaim =
    (file buf : List ℕ) (t : Summary) (after : List ℕ)
    → Promise file buf (accepted t) after
    → (t.offset ≤ t.length)
    × (t.length ≤ length after)
    × (t.length ≤ 65536)
    × (t.offset % 4 ≡ 0)
    × (t.length % 4 ≡ 0)

-- The machine stands where the reading stands: k steps from s lead to such a state, so none of them traps.
pub record Underway (Q : Floats) (p : Program) (s : State) (r : Reading) : Type 0 where
  pub k : ℕ
  pub here : State
  pub runs : Run Q s k here
  pub f : here.f ≡ r.f
  pub cells : (q : Place) (i : ℕ) → i < cell_count p.head q → load8 here.mem (cell_address p.head s q i) ≡ r.cells q i

-- As far as the plain reading of a call comes, whether it ends or not, the machine comes.
abbrev pub UnderwayClaim : Type 0
UnderwayClaim =
    (Q : Floats) (file buf : List ℕ) (t : Summary) (after : List ℕ) (p : Program) (s : State)
    → CallSetup file buf t after p s
    → (n : ℕ) (r : Reading)
    → Reads Q p (start p.head s) n r
    → Underway Q p s r
