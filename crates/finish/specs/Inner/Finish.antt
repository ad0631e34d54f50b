-- What the private functions of finishing promise.
use Rattle.std.specs.Prelude.{◌≡◌, Bool, true, false, List, ℕ, ◌≤◌, ◌<◌, eqb, length, Option, None, Some, Result, Ok, Err}
use Rattle.assembler.specs.Limit.{room_limit, jump_limit}
use Rattle.assembler.specs.Memory.{jump_at}
use Rattle.assembler.specs.Memory as Memory
use Rattle.assembler.specs.State.{State, sound}
use Rattle.finish.specs.Finish.{jump_number, labels_good, finish_number, finish, finish_outcome}
use Rattle.finish.specs.declared.Jump.{Jump}
use Rattle.finish.specs.declared.Unfinished.{Unfinished}

-- a jump without its tag
abbrev pub jump_of : Jump → Memory.Jump
jump_of j = record { word = j.word; label = j.label; reg = j.reg; kind = j.kind }

-- nothing is wrong with any of the first n
abbrev pub AllRight : List ℕ → (len : ℕ) → (jumps : List ℕ) → (n : ℕ) → Type 0
AllRight labels len jumps n = (i : ℕ) → i < n → jump_number labels len (jump_at jumps i) ≡ 0

-- jump i has this number
abbrev pub has_fault : (number : ℕ) → (labels : List ℕ) → (len : ℕ) → (jumps : List ℕ) → ℕ → Bool
has_fault number labels len jumps i = eqb (jump_number labels len (jump_at jumps i)) number

-- f, if it is one of n
abbrev pub IsFirst : Option ℕ → (f n : ℕ) → Type 0
IsFirst None f n = n ≤ f
IsFirst (Some i) f n = (f ≡ i) × (i < n)

-- what is looked at before the jumps
pub record Fit (s : State) : Type 0 where
  pub unclosed : s.asm.closed ≡ false
  pub well : sound (length s.buf) s.asm ≡ true
  pub within : s.asm.len ≤ length s.buf
  pub near : s.asm.len ≤ room_limit
  pub few : s.asm.jumps ≤ jump_limit
  pub good : labels_good s.asm.len s.labels ≡ true

-- a state that can be finished
abbrev pub Ready : State → Type 0
Ready s = Fit s × (finish_number s ≡ 0) × AllRight s.labels s.asm.len s.jumps s.asm.jumps

-- it can be, or is refused as finishing refuses it
abbrev pub Checked : Result (Unit {0}) Unfinished → State → Type 0
Checked (Ok u) s = Ready s
Checked (Err e) s = finish_outcome (Err e) s.asm s.labels s.jumps s.buf ≡ finish s
