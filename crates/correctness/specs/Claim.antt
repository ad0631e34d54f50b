-- DEMAND 3 (document 01), "a single claim about the whole file": what a call does where the routine's bytes stand.
-- The statement; it is proved in `proofs`.
use Rattle.std.specs.Prelude.{◌≡◌, List, ℕ, ◌*◌, ◌<◌, T, length, get_or, take}
use Rattle.isa.specs.Instr.{Instr, valid}
use Rattle.isa.specs.Encode.{encode}
use Rattle.machine.specs.Word.{load4}
use Rattle.machine.specs.Floats.{Floats}
use Rattle.machine.specs.State.{State, Sound}
use Rattle.machine.specs.Step.{Loaded}
use Rattle.refusal.specs.Answer.{accepted}
use Rattle.reading.specs.Program.{Program}
use Rattle.reading.specs.Plain.{Reading, Reads, Ended, Forward}
use Rattle.reading.specs.Terms.{start, Terms}
use Rattle.call.specs.Returned.{Returned}
use Rattle.routine.specs.Routine.{program_of, Summary, Promise}

-- The routine took the file, answered t and left `after` in the buffer; the bytes it left stand at the pc of s, and the terms of a call
-- hold there.
pub record CallSetup (file buf : List ℕ) (t : Summary) (after : List ℕ) (p : Program) (s : State) : Type 0 where
  -- what the function `routine` promises of its answer and the buffer afterwards
  pub promised : Promise file buf (accepted t) after
  -- p is what the plain reading goes through: line 1, and the file's lines from line 2 on
  pub lines : program_of (length buf) file ≡ accepted p
  -- 64-bit registers, bytes, a rounding mode from 0 to 4
  pub sound : Sound s
  -- the code: the accepted length, constants included
  pub code : Loaded s.mem s.pc (take t.length after)
  -- "The machine and the terms of a call"
  pub terms : Terms p.head t.length s

-- For every Floats, file, buffer and machine: where the plain reading from the call's start ends, the machine comes back as the reading
-- says. The conclusion is `Returned`, in crate call. The plain reading is one: `OneReading`, beside `Reads` in crate reading.
abbrev pub Claim : Type 0
Claim =
    (Q : Floats) (file buf : List ℕ) (t : Summary) (after : List ℕ) (p : Program) (s : State)
    → CallSetup file buf t after p s
    → (n : ℕ) (r : Reading)
    → Reads Q p (start p.head s) n r
    → Ended p r
    → Returned Q p t.length s n r

-- And it ends where branches go forward.
abbrev pub ForwardClaim : Type 0
ForwardClaim =
    (Q : Floats) (file buf : List ℕ) (t : Summary) (after : List ℕ) (p : Program) (s : State)
    → CallSetup file buf t after p s
    → Forward p
    → (n : ℕ) × (r : Reading)
    × Reads Q p (start p.head s) n r
    × Ended p r
    × Returned Q p t.length s n r

-- Every word before the constants is that of a valid instruction.
abbrev pub WordsClaim : Type 0
WordsClaim =
    (file buf : List ℕ) (t : Summary) (after : List ℕ)
    → Promise file buf (accepted t) after
    → (k : ℕ)
    → 4 * k < t.offset
    → (i : Instr) × T (valid i) × (load4 (λ x. get_or after x 0) (4 * k) ≡ encode i)
