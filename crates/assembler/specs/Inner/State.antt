-- What private functions promise of the state.
use Rattle.std.specs.Prelude.{◌≡◌, true, List, ℕ, ◌+◌, ◌*◌, ◌≤◌, length}
use Rattle.assembler.specs.Limit.{room_limit, jump_limit}
use Rattle.assembler.specs.Bytes.{written}
use Rattle.assembler.specs.declared.Asm.{Asm}
use Rattle.assembler.specs.State.{State}
use Rattle.assembler.specs.Put.{numbers_fit}

-- words behind the others
abbrev pub with_words : List ℕ → State → State
with_words ws s =
    record {
      asm = record { len = s.asm.len + 4 * length ws; jumps = s.asm.jumps; closed = s.asm.closed };
      labels = s.labels;
      jumps = s.jumps;
      buf = written s.buf s.asm.len ws;
    }

-- so many words and jumps more have room
abbrev pub Fits : ℕ → Asm → ℕ → ℕ → Type 0
Fits n a words jumps = (a.len + 4 * words ≤ n) × (a.len + 4 * words ≤ room_limit) × (a.jumps + jumps ≤ jump_limit)

-- and jumps to these labels
abbrev pub Roomy : (words : ℕ) → (ts : List ℕ) → State → Type 0
Roomy words ts s = Fits (length s.buf) s.asm words (length ts) × (numbers_fit s.labels ts ≡ true)
