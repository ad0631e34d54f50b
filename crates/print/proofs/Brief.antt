-- No listing of at most 65,536 bytes is longer than 475,136 bytes: 16,384 lines of 29. Assumes nothing.
use mathlib.Core.Path.{◌≡◌, refl}
use mathlib.Core.Bool.{Bool, true, false, cond}
use mathlib.Core.List.{List, [], ◌∷◌}
use mathlib.Core.Option.{Option, some, none}
use Prim.Native.Nat.{ℕ, suc, ◌+◌, ◌*◌, ◌^◌, ◌<◌, ◌≤◌}
use native.Mathlib.Omega.{arith}
use lib.Dec.{ltb}
use lib.IntN.{ℤ, pos, negsuc}
use lib.ListN.{length, length-append}
use lib.Signed.{mag}
use Rattle.isa.specs.Instr.{Instr, R, F, C, M, R4, I, Shift, S, B, U, J, FOp, COp, ADD, SUB, SLL, XOR, SRL, SRA, OR, AND, FSGNJ_D, FSGNJN_D, FSGNJX_D, FMIN_D, FMAX_D, FLE_D, FLT_D, FEQ_D, FADD_D, FSUB_D, FMUL_D, FDIV_D, FSQRT_D, FCVT_W_D, FCVT_L_D, FCVT_D_W, FCVT_D_L, FMV_X_D, FMV_D_X, FMADD_D, FMSUB_D, FNMSUB_D, FNMADD_D, ADDI, XORI, ORI, ANDI, JALR, LD, FLD, ADDIW, SLLI, SRLI, SRAI, SD, FSD, BEQ, BNE, BLT, BGE, BLTU, BGEU, LUI, AUIPC, JAL, unsigned, rounding, f_rounding, c_rounding}
use Rattle.isa.specs.Decode.{decode}
use Rattle.isa.proofs.Validity.{Holds, Valid}
use Rattle.isa.proofs.Laws.{encode_decode, rounding_small}
use Rattle.text.specs.Ascii.{bytes}
use Rattle.text.specs.Digits.{integer_bytes}
use Rattle.print.specs.Text.{words_of}
use Rattle.print.specs.Listing.{name, shown, operands_text, instr_line, data_line, line_of, listing_line, listing_lines}
use Rattle.print.proofs.Counts.{decimal_short}
use Rattle.print.proofs.Listings.{length_instr_line, length_data_line}
use Rattle.print.proofs.Short.{words_few}

-- a number of at most k + 1 digits, and a minus
integer_short : (k : ℕ) (z : ℤ) → mag z + 1 < 10 ^ suc k → length (integer_bytes z) ≤ k + 2
unfolding integer_bytes
integer_short k (pos n) h = omega (arith, decimal_short k n (omega arith))
integer_short k (negsuc n) h = omega (arith, decimal_short k (suc n) (omega arith))

-- no name is longer than eight bytes
abbrev Eight : Instr → Type 0
Eight i = length (bytes (name i)) ≤ 8

eight : (i : Instr) → Eight i
eight (R ADD d a b) = omega arith
eight (R SUB d a b) = omega arith
eight (R SLL d a b) = omega arith
eight (R XOR d a b) = omega arith
eight (R SRL d a b) = omega arith
eight (R SRA d a b) = omega arith
eight (R OR d a b) = omega arith
eight (R AND d a b) = omega arith
eight (R FSGNJ_D d a b) = omega arith
eight (R FSGNJN_D d a b) = omega arith
eight (R FSGNJX_D d a b) = omega arith
eight (R FMIN_D d a b) = omega arith
eight (R FMAX_D d a b) = omega arith
eight (R FLE_D d a b) = omega arith
eight (R FLT_D d a b) = omega arith
eight (R FEQ_D d a b) = omega arith
eight (F FADD_D d a b m) = omega arith
eight (F FSUB_D d a b m) = omega arith
eight (F FMUL_D d a b m) = omega arith
eight (F FDIV_D d a b m) = omega arith
eight (C FSQRT_D d a m) = omega arith
eight (C FCVT_W_D d a m) = omega arith
eight (C FCVT_L_D d a m) = omega arith
eight (C FCVT_D_W d a m) = omega arith
eight (C FCVT_D_L d a m) = omega arith
eight (M FMV_X_D d a) = omega arith
eight (M FMV_D_X d a) = omega arith
eight (R4 FMADD_D d a b c m) = omega arith
eight (R4 FMSUB_D d a b c m) = omega arith
eight (R4 FNMSUB_D d a b c m) = omega arith
eight (R4 FNMADD_D d a b c m) = omega arith
eight (I ADDI d a z) = omega arith
eight (I XORI d a z) = omega arith
eight (I ORI d a z) = omega arith
eight (I ANDI d a z) = omega arith
eight (I JALR d a z) = omega arith
eight (I LD d a z) = omega arith
eight (I FLD d a z) = omega arith
eight (I ADDIW d a z) = omega arith
eight (Shift SLLI d a z) = omega arith
eight (Shift SRLI d a z) = omega arith
eight (Shift SRAI d a z) = omega arith
eight (S SD a b z) = omega arith
eight (S FSD a b z) = omega arith
eight (B BEQ a b z) = omega arith
eight (B BNE a b z) = omega arith
eight (B BLT a b z) = omega arith
eight (B BGE a b z) = omega arith
eight (B BLTU a b z) = omega arith
eight (B BGEU a b z) = omega arith
eight (U LUI d z) = omega arith
eight (U AUIPC d z) = omega arith
eight (J JAL d z) = omega arith

-- an operand and the comma before it, of a register, a rounding field, and a number of n digits
register : (r : ℕ) → r < 32 → length (integer_bytes (pos r)) ≤ 2
unfolding integer_bytes
register r h = decimal_short 1 r (omega arith)

mode : (m : ℕ) → m < 8 → length (integer_bytes (pos m)) ≤ 1
unfolding integer_bytes
mode m h = decimal_short 0 m (omega arith)

whole : (w k : ℕ) (z : ℤ) → 2 ^ w ≤ 10 ^ suc k → Holds (unsigned w z) → length (integer_bytes z) ≤ k + 1
unfolding integer_bytes
whole w k (pos n) h v = omega (arith, decimal_short k n (omega arith))
whole w k (negsuc n) h v = absurd v

modes : (k : FOp) (m : ℕ) → Holds (rounding (f_rounding k) m) → m < 8
modes FADD_D m h = rounding_small m h
modes FSUB_D m h = omega arith
modes FMUL_D m h = omega arith
modes FDIV_D m h = omega arith

c_modes : (k : COp) (m : ℕ) → Holds (rounding (c_rounding k) m) → m < 8
c_modes FSQRT_D m h = omega arith
c_modes FCVT_W_D m h = omega arith
c_modes FCVT_L_D m h = rounding_small m h
c_modes FCVT_D_W m h = omega arith
c_modes FCVT_D_L m h = omega arith

-- name and operands of a valid instruction have at most 22 bytes
operands_short : (i : Instr) → Valid i → length (operands_text (shown i)) ≤ 14
unfolding operands_text
operands_short (R k d a b) h = simp length-append (omega (arith, register d h.0, register a h.1.0, register b h.1.1.0))
operands_short (F k d a b m) h = simp length-append (omega (arith, register d h.0, register a h.1.0, register b h.1.1.0, mode m (modes k m h.1.1.1.0)))
operands_short (C k d a m) h = simp length-append (omega (arith, register d h.0, register a h.1.0, mode m (c_modes k m h.1.1.0)))
operands_short (M k d a) h = simp length-append (omega (arith, register d h.0, register a h.1.0))
operands_short (R4 k d a b c m) h = simp length-append (omega (arith, register d h.0, register a h.1.0, register b h.1.1.0, register c h.1.1.1.0, mode m (omega arith)))
operands_short (I k d a z) h = simp length-append (omega (arith, register d h.0, register a h.1.0, integer_short 3 z (omega arith)))
operands_short (Shift k d a z) h = simp length-append (omega (arith, register d h.0, register a h.1.0, whole 6 1 z (omega arith) h.1.1.0))
operands_short (S k a b z) h = simp length-append (omega (arith, register a h.0, register b h.1.0, integer_short 3 z (omega arith)))
operands_short (B k a b z) h = simp length-append (omega (arith, register a h.0, register b h.1.0, integer_short 3 z (omega arith)))
operands_short (U k d z) h = simp length-append (omega (arith, register d h.0, whole 20 6 z (omega arith) h.1.0))
operands_short (J k d z) h = simp length-append (omega (arith, register d h.0, integer_short 6 z (omega arith)))

instr_short : (o : ℕ) (i : Instr) → o < 100000 → Valid i → length (instr_line o i) ≤ 29
instr_short o i h v =
    omega (arith, length_instr_line o i, decimal_short 4 o (omega arith), eight i, operands_short i v)

line_short : (constants o w : ℕ) → o < 100000 → length (listing_line constants o w) ≤ 29
unfolding listing_line
line_short constants o w h = by (ltb o constants) (decode w) refl
  where
    by : (t : Bool) (r : Option Instr) → decode w ≡ r → length (cond t (line_of o r) (data_line o w)) ≤ 29
    by true (some i) e = instr_short o i h (encode_decode w i e).0
    by true none e = omega arith
    by false r e = omega (arith, length_data_line o w, decimal_short 4 o (omega arith))

lines_short : (constants o : ℕ) (ws : List ℕ) → o + 4 * length ws ≤ 99999 → length (listing_lines constants o ws) ≤ 29 * length ws
unfolding listing_lines
lines_short constants o [] h = omega arith
lines_short constants o (w ∷ ws) h =
    let a = line_short constants o w (omega arith) in
    let c = lines_short constants (o + 4) ws (omega arith) in
    simp length-append (omega arith)

pub listing_short : (constants : ℕ) (s : List ℕ) → length s ≤ 65536 → length (listing_lines constants 0 (words_of s)) ≤ 475136
listing_short constants s h =
    let a = words_few s in
    let b = lines_short constants 0 (words_of s) (omega arith) in
    omega arith
