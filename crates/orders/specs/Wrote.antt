-- What writing an order's words leaves: the buffer and the length behind them.
use Rattle.std.specs.Prelude.{◌≡◌, Bool, cond, List, map, ℕ, ◌+◌, ◌*◌, ◌%◌, ◌^◌, leb, length, Option, Some, None}
use Rattle.isa.specs.Instr.{Instr}
use Rattle.assembler.specs.Bytes.{written, room}
use Rattle.assembler.specs.State.{Lent}
use Rattle.accesses.specs.Plans.{answer_of, word_of}

-- the word that the encoder answers, 0 where it refuses
abbrev pub word : Instr → ℕ
word i = word_of (answer_of i)

-- ---- the orders of instructions alone

-- the longest order, of eleven words, has room behind len
abbrev pub roomy : (len : ℕ) → (buf : List ℕ) → Bool
roomy len buf = leb (len + 44) (room (length buf))

-- where there is room the words stand at len, and the answer is the length behind them; elsewhere nothing changes
abbrev pub Wrote : List Instr → (len : ℕ) → (buf : Lent) → (r : Option ℕ) → Type 0
Wrote is len buf r =
    (buf.exit.now ≡ cond (roomy len buf.entry.now) (written buf.entry.now len (map word is)) buf.entry.now)
    × (r ≡ cond (roomy len buf.entry.now) (Some (len + 4 * length is)) None)

-- the offset of the cell with index i, in 32 bits: 8 * i below 2^29
abbrev pub offset : (i : ℕ) → ℕ
offset i = 8 * (i % 2 ^ 29)
