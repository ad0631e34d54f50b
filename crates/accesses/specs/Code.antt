-- The instructions of li, of loads and stores, and of stack sizes (document 01, "mod.rs, accesses"; document 02, point 6).
use Rattle.std.specs.Prelude.{cond, List, [], ◌∷◌, ◌++◌, ℕ, ◌+◌, ltb, ℤ, pos, negsuc, neg_ℤ}
use Rattle.std.specs.Int.Signed.{mag}
use Rattle.isa.specs.Immediate.{twos, hi, lo}
use Rattle.isa.specs.Register.{zero, sp, t0, s5}
use Rattle.isa.specs.Instr.{Instr, R, IOp, I, S, U, ADD, SUB, ADDI, ADDIW, LD, FLD, FSD, LUI}

-- What a signed 12-bit field holds is below this. (`mag z` is n both for n and for -1 - n.)
abbrev pub near : ℕ
near = 2048

-- The first number that `lui` and `addi` don't load: `lui` gives a negative one.
abbrev pub top : ℕ
top = 0x7FFFF800

-- What li's second word does: from there on `addiw`, which cuts the sum to 32 bits and extends its sign.
-- (Above 0x7FFFFFFF, the last 32-bit signed value, offsets and sizes are refused.)
abbrev pub low_op : ℤ → IOp
low_op (pos n) = cond (ltb n top) ADDI ADDIW
low_op (negsuc n) = ADDI

-- One `addi` for -2048..2047, else `lui` and `addi`; at the top `lui` and `addiw`.
unfoldable pub li_code : (d : ℕ) → ℤ → List Instr
li_code d z =
    cond (ltb (mag z) near) (I ADDI d zero z ∷ []) (U LUI d (pos (hi (twos 32 z))) ∷ I (low_op z) d d (lo (twos 32 z)) ∷ [])

-- t0 is base + offset
unfoldable pub point_code : (base offset : ℕ) → List Instr
point_code base n = li_code t0 (pos n) ++ (R ADD t0 t0 base ∷ [])

-- Offsets below `limit` go into the access itself; others through t0.
unfoldable pub access_code : (limit : ℕ) → (ℕ → ℕ → List Instr) → (base offset : ℕ) → List Instr
access_code limit is base n = cond (ltb n limit) (is base n) (point_code base n ++ is t0 0)

-- a pair is direct below this offset: its second cell is 8 further
abbrev pub near_pair : ℕ
near_pair = 2040

abbrev pub load_float_code : (d base offset : ℕ) → List Instr
load_float_code d = access_code near (λ b n. I FLD d b (pos n) ∷ [])

abbrev pub save_float_code : (s base offset : ℕ) → List Instr
save_float_code s = access_code near (λ b n. S FSD b s (pos n) ∷ [])

abbrev pub load_int_code : (d base offset : ℕ) → List Instr
load_int_code d = access_code near (λ b n. I LD d b (pos n) ∷ [])

-- A pair is float registers d and d + 1, with the cells at offset and offset + 8.
abbrev pub load_complex_code : (d base offset : ℕ) → List Instr
load_complex_code d = access_code near_pair (λ b n. I FLD d b (pos n) ∷ I FLD (d + 1) b (pos (n + 8)) ∷ [])

abbrev pub save_complex_code : (s base offset : ℕ) → List Instr
save_complex_code s = access_code near_pair (λ b n. S FSD b s (pos n) ∷ S FSD b (s + 1) (pos (n + 8)) ∷ [])

-- ---- the stack

unfoldable pub sub_stack_code : (size : ℕ) → List Instr
sub_stack_code n =
    cond (ltb n near) (I ADDI sp sp (neg_ℤ (pos n)) ∷ []) (li_code t0 (neg_ℤ (pos n)) ++ (R ADD sp sp t0 ∷ []))

unfoldable pub add_stack_code : (size : ℕ) → List Instr
add_stack_code n = cond (ltb n near) (I ADDI sp sp (pos n) ∷ []) (li_code t0 (pos n) ++ (R ADD sp sp t0 ∷ []))

-- and s5 is then sp
unfoldable pub allocate_stack_code : (size : ℕ) → List Instr
allocate_stack_code n =
    cond (ltb n near) (I ADDI sp sp (neg_ℤ (pos n)) ∷ []) (li_code t0 (pos n) ++ (R SUB sp sp t0 ∷ []))
    ++ (R ADD s5 sp zero ∷ [])
