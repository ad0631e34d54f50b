-- What the private writers promise.
use Rattle.std.specs.Prelude.{◌≡◌, List, [], ◌∷◌, map, ℕ, ◌+◌, ◌*◌, ◌≤◌, pos, length}
use Rattle.isa.specs.Register.{t0, t1}
use Rattle.isa.specs.Immediate.{hi, lo}
use Rattle.isa.specs.Instr.{Instr, R, M, I, U, ADD, FMV_X_D, FMV_D_X, LUI}
use Rattle.encoder.specs.Answer.{Encoded, word_answer, encoded}
use Rattle.assembler.specs.Bytes.{written}
use Rattle.assembler.specs.State.{Lent}
use Rattle.accesses.specs.Code.{low_op}
use Rattle.orders.specs.Wrote.{word}

-- the words written from a buffer and a length on, and those behind them
abbrev pub Puts : (ws before : List ℕ) → (len : ℕ) → (after : List ℕ) → (r : ℕ) → Type 0
Puts ws before len after r = (after ≡ written before len ws) × (r ≡ len + 4 * length ws)

abbrev pub PutCode : List Instr → (len : ℕ) → (buf : Lent) → (r : ℕ) → Type 0
PutCode is len buf r = Puts (map word is) buf.entry.now len buf.exit.now r

-- the instructions have room
abbrev pub Fits : List Instr → (len : ℕ) → (buf : List ℕ) → Type 0
Fits is len buf = len + 4 * length is ≤ length buf

-- the answer is the encoder's for the instruction
abbrev pub Is : Encoded → Instr → Type 0
Is e i = word_answer e ≡ encoded i

-- the bits of a and b through t0 and t1, and the instruction `op` on them
abbrev pub bits_code : (op : Instr) → (d a b : ℕ) → List Instr
bits_code op d a b = M FMV_X_D t0 a ∷ M FMV_X_D t1 b ∷ op ∷ M FMV_D_X d t0 ∷ []

-- the instruction `last` through t0, which is made of base and n
abbrev pub far_code : (last : Instr) → (base n : ℕ) → List Instr
far_code last base n = U LUI t0 (pos (hi n)) ∷ I (low_op (pos n)) t0 t0 (lo n) ∷ R ADD t0 t0 base ∷ last ∷ []
