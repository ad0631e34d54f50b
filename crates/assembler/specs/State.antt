-- The assembler's state: the record, and the memory that is lent with it.
use Rattle.std.specs.Prelude.{◌≡◌, Bool, ◌&&◌, List, ℕ, ◌+◌, ◌*◌, ◌%◌, leb, eqb, Result}
use Rattle.std.specs.Borrow.{Bor, MutBor}
use denote.Triple.Both.{Both}
use Rattle.refusal.specs.Answer.{Answer, answer_of_result}
use Rattle.refusal.specs.declared.Refused.{Refused}
use Rattle.assembler.specs.Limit.{jump_limit}
use Rattle.assembler.specs.Bytes.{room}
use Rattle.assembler.specs.declared.Asm.{Asm}
use Rattle.assembler.specs.declared.Assembler.{Assembler}

pub record State : Type 0 where
  pub asm : Asm
  pub labels : List ℕ  -- 2,039 entries
  pub jumps : List ℕ  -- five numbers a jump: its word's place, label, register, kind and the caller's own tag
  pub buf : List ℕ

-- What a function answers, and the state it leaves.
pub record Outcome : Type 0 where
  pub answer : Answer (Unit {0})
  pub state : State

abbrev pub state : Asm → List ℕ → List ℕ → List ℕ → State
state a ls js b = record { asm = a; labels = ls; jumps = js; buf = b }

-- an answer's number and place
abbrev pub emit_answer : Result (Unit {0}) Refused → Answer (Unit {0})
emit_answer r = answer_of_result r

abbrev pub outcome : Result (Unit {0}) Refused → Asm → List ℕ → List ℕ → List ℕ → Outcome
outcome r a ls js b = record { answer = emit_answer r; state = state a ls js b }

-- the state that a method is called in, and what it answers and leaves
abbrev pub before : Assembler → State
before a = state a.asm a.labels.now a.jumps.now a.buf.now

abbrev pub after : Result (Unit {0}) Refused → Assembler → Outcome
after r a = outcome r a.asm a.labels.now a.jumps.now a.buf.now

-- The memory that a method was lent is what it lends on: so a caller's memory is known again behind the last method.
abbrev pub SameLent : Assembler → Assembler → Type 0
SameLent a b = (b.buf.ghost_name ≡ a.buf.ghost_name) × (b.labels.ghost_name ≡ a.labels.ghost_name) × (b.jumps.ghost_name ≡ a.jumps.ghost_name)

-- lent memory at a function's entry and at its exit
abbrev pub Lent : Type 0
Lent = Both (MutBor (List ℕ)) (MutBor (List ℕ))

-- the same of memory that is only read
abbrev pub Read : Type 0
Read = Both (Bor (List ℕ)) (Bor (List ℕ))

-- The record is one that orders make, over a buffer of n bytes: its length within the room and a multiple of 4, at most 4,096 jumps.
unfoldable pub sound : ℕ → Asm → Bool
sound n a = leb a.len (room n) && (eqb (a.len % 4) 0 && leb a.jumps jump_limit)

-- so many words and jumps more have room
unfoldable pub fits : ℕ → Asm → ℕ → ℕ → Bool
fits n a words jumps = leb (a.len + 4 * words) (room n) && leb (a.jumps + jumps) jump_limit
