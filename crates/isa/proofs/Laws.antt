-- Laws of the encoding: an instruction's word gives the instruction back, and no other word does. Assumes nothing.
use mathlib.Core.Path.{◌≡◌, refl, ap, ◌∙◌}
use mathlib.Core.Bool.{Bool, true, false, ◌&&◌, ◌||◌, cond}
use mathlib.Core.Option.{Option, some, none}
use Prim.Native.Nat.{ℕ, ◌+◌, ◌-◌, ◌*◌, ◌/◌, ◌%◌, ◌^◌, ◌<◌}
use native.Mathlib.Nat.{mod-eq_of_lt, mod-lt}
use lib.Pow.{pow_pos}
use native.Mathlib.Omega.{arith}
use borrow.Author.Tests.{lt-ltb, le-ltb, leb-true, eqb-true, eq-eqb}
use lib.Dec.{T, eqb, leb, eqb→eq}
use lib.IntN.{ℤ, pos, negsuc}
use lib.Signed.{mag}
use Rattle.isa.specs.Immediate.{twos, signed}
use Rattle.isa.specs.Instr.{Instr, R, F, C, M, R4, I, Shift, S, B, U, J, ADD, SUB, SLL, XOR, SRL, SRA, OR, AND, FSGNJ_D, FSGNJN_D, FSGNJX_D, FMIN_D, FMAX_D, FLE_D, FLT_D, FEQ_D, FADD_D, FSUB_D, FMUL_D, FDIV_D, FSQRT_D, FCVT_W_D, FCVT_L_D, FCVT_D_W, FCVT_D_L, FMV_X_D, FMV_D_X, FMADD_D, FMSUB_D, FNMSUB_D, FNMADD_D, ADDI, XORI, ORI, ANDI, JALR, LD, FLD, ADDIW, SLLI, SRLI, SRAI, SD, FSD, BEQ, BNE, BLT, BGE, BLTU, BGEU, LUI, AUIPC, JAL, BOp, offset, unsigned, rounding, free, valid}
use Rattle.isa.specs.Encode.{Fields, join, fields, encode}
use Rattle.isa.specs.Decode.{cut, b_imm, j_imm, reading, checked, decode}
use Rattle.isa.proofs.Validity.{Holds, Valid, valid_Valid, Valid_valid}
use Rattle.base.proofs.Bools.{both}

-- ---- a word's six fields

pub record Fit (G : Fields) : Type 0 where
  pub opcode : G.opcode < 128
  pub rd : G.rd < 32
  pub funct3 : G.funct3 < 8
  pub rs1 : G.rs1 < 32
  pub rs2 : G.rs2 < 32
  pub funct7 : G.funct7 < 128

module _ (o d t a b s : ℕ) (ho : o < 128) (hd : d < 32) (ht : t < 8) (ha : a < 32) (hb : b < 32) (hs : s < 128) where
  abbrev word : ℕ
  word = o + d * 128 + t * 4096 + a * 32768 + b * 1048576 + s * 33554432

  c1 : word % 128 ≡ o
  c1 = omega arith

  c2 : word / 128 % 32 ≡ d
  c2 = omega arith

  c3 : word / 4096 % 8 ≡ t
  c3 = omega arith

  c4 : word / 32768 % 32 ≡ a
  c4 = omega arith

  c5 : word / 1048576 % 32 ≡ b
  c5 = omega arith

  c6 : word / 33554432 ≡ s
  c6 = omega arith

  small : word < 4294967296
  small = omega arith

module _ (G : Fields) (h : Fit G) where
  at : {X : ℕ → ℕ → ℕ → ℕ → ℕ → ℕ → Type 0} → ((o d t a b s : ℕ) → o < 128 → d < 32 → t < 8 → a < 32 → b < 32 → s < 128 → X o d t a b s) → X G.opcode G.rd G.funct3 G.rs1 G.rs2 G.funct7
  at f = f G.opcode G.rd G.funct3 G.rs1 G.rs2 G.funct7 h.opcode h.rd h.funct3 h.rs1 h.rs2 h.funct7

  pub cut_join : cut (join G) ≡ G
  unfolding cut join
  cut_join = λ i. record { opcode = at c1 i; rd = at c2 i; funct3 = at c3 i; rs1 = at c4 i; rs2 = at c5 i; funct7 = at c6 i }

  join_small : join G < 2 ^ 32
  unfolding join
  join_small = at small

-- ---- immediates

-- a signed field gives its number back
module _ (w : ℕ) (q : 2 ^ w ≡ 2 ^ (w - 1) + 2 ^ (w - 1)) where
  signed_twos : (z : ℤ) → mag z < 2 ^ (w - 1) → signed w (twos w z) ≡ z
  signed_twos (pos n) l =
      let e : n % 2 ^ w ≡ n = mod-eq_of_lt (omega arith) in
      rw e (simp (lt-ltb n (2 ^ (w - 1)) l))
  signed_twos (negsuc n) l =
      let e : n % 2 ^ w ≡ n = mod-eq_of_lt (omega arith) in
      let d : 2 ^ w - 1 - (2 ^ w - 1 - n) ≡ n = omega arith in
      rw e (simp (le-ltb (2 ^ w - 1 - n) (2 ^ (w - 1)) (omega arith), d))

-- an unsigned one too
unsigned_twos : (w : ℕ) (z : ℤ) → Holds (unsigned w z) → pos (twos w z) ≡ z
unsigned_twos w (pos n) l = ap pos (mod-eq_of_lt l)
unsigned_twos w (negsuc n) l = absurd l

pub twos_small : (w : ℕ) (z : ℤ) → twos w z < 2 ^ w
twos_small w (pos n) = mod-lt n (pow_pos w)
twos_small w (negsuc n) = let h : 0 < 2 ^ w = pow_pos w in omega arith

-- ---- an immediate's bits, cut up and put together again

up : (x y : ℕ) → y < 64 → (x * 64 + y) / 64 ≡ x
up x y h = omega arith

low : (x y : ℕ) → y < 64 → (x * 64 + y) % 64 ≡ y
low x y h = omega arith

up2 : (x y : ℕ) → y < 2 → (x * 2 + y) / 2 ≡ x
up2 x y h = omega arith

low2 : (x y : ℕ) → y < 2 → (x * 2 + y) % 2 ≡ y
low2 x y h = omega arith

pub up4 : (c : ℕ) → (c * 4 + 1) / 4 ≡ c
up4 c = omega arith

split : (n : ℕ) → n / 32 * 32 + n % 32 ≡ n
split n = omega arith

-- a shift count n below 64 behind six fixed bits k
module _ (k n : ℕ) (h : n < 64) where
  pub shift_key_back : (k * 64 + n) / 32 / 2 ≡ k
  shift_key_back = omega arith

  shift_back : (k * 64 + n) / 32 % 2 * 32 + (k * 64 + n) % 32 ≡ n
  shift_back = omega arith

u_split : (n : ℕ) → n < 1048576 → n / 8192 * 8192 + n / 256 % 32 * 256 + n / 8 % 32 * 8 + n % 8 ≡ n
u_split n h = omega arith

b_split : (n : ℕ) → n < 8192 → n % 2 ≡ 0 → n / 4096 * 4096 + n / 2048 % 2 * 2048 + n / 32 % 64 * 32 + n / 2 % 16 * 2 ≡ n
b_split n h e =
    let a : n / 2 / 16 ≡ n / 32 = omega arith in
    let b : n / 32 / 64 ≡ n / 2048 = omega arith in
    let c : n / 2048 / 2 ≡ n / 4096 = omega arith in
    omega arith

j_split : (n : ℕ) → n < 2097152 → n % 2 ≡ 0 → n / 1048576 * 1048576 + n / 32768 % 32 * 32768 + n / 4096 % 8 * 4096 + n / 2048 % 2 * 2048 + n / 32 % 64 * 32 + n / 2 % 16 * 2 ≡ n
j_split n h e =
    let a : n / 2 / 16 ≡ n / 32 = omega arith in
    let b : n / 32 / 64 ≡ n / 2048 = omega arith in
    let c : n / 2048 / 2 ≡ n / 4096 = omega arith in
    let d : n / 4096 / 8 ≡ n / 32768 = omega arith in
    let f : n / 32768 / 32 ≡ n / 1048576 = omega arith in
    omega arith

pub b_back : (k : BOp) (a b : ℕ) (z : ℤ) → Holds (offset 13 z) → signed 13 (b_imm (fields (B k a b z))) ≡ z
unfolding fields
b_back k a b z h =
    let n : ℕ = twos 13 z in
    let p : n / 32 % 64 < 64 = omega arith in
    let q : n / 2048 % 2 < 2 = omega arith in
    rw (up, low, up2, low2, b_split n (twos_small 13 z) h.1) (signed_twos 13 refl z h.0)

pub j_back : (d : ℕ) (z : ℤ) → Holds (offset 21 z) → signed 21 (j_imm (fields (J JAL d z))) ≡ z
unfolding fields
j_back d z h =
    let n : ℕ = twos 21 z in
    let p : n / 32 % 64 < 64 = omega arith in
    let q : n / 2048 % 2 < 2 = omega arith in
    rw (up, low, up2, low2, j_split n (twos_small 21 z) h.1) (signed_twos 21 refl z h.0)

pub i_back : (z : ℤ) → mag z < 2048 → signed 12 (twos 12 z / 32 * 32 + twos 12 z % 32) ≡ z
i_back z h = rw (split (twos 12 z)) (signed_twos 12 refl z h)

pub u_back : (z : ℤ) → Holds (unsigned 20 z) → pos (twos 20 z / 8192 * 8192 + twos 20 z / 256 % 32 * 256 + twos 20 z / 8 % 32 * 8 + twos 20 z % 8) ≡ z
u_back z h = rw (u_split (twos 20 z) (twos_small 20 z)) (unsigned_twos 20 z h)

module _ (k : ℕ) (z : ℤ) (h : Holds (unsigned 6 z)) where
  pub shamt_back : pos ((k * 64 + twos 6 z) / 32 % 2 * 32 + (k * 64 + twos 6 z) % 32) ≡ z
  shamt_back = rw (shift_back k (twos 6 z) (twos_small 6 z)) (unsigned_twos 6 z h)

-- ---- the laws

-- the operation and the operands are read back
reading_fields : (i : Instr) → Valid i → reading (fields i) ≡ some i
unfolding reading fields
reading_fields (R ADD d a b) h = refl
reading_fields (R SUB d a b) h = refl
reading_fields (R SLL d a b) h = refl
reading_fields (R XOR d a b) h = refl
reading_fields (R SRL d a b) h = refl
reading_fields (R SRA d a b) h = refl
reading_fields (R OR d a b) h = refl
reading_fields (R AND d a b) h = refl
reading_fields (R FSGNJ_D d a b) h = refl
reading_fields (R FSGNJN_D d a b) h = refl
reading_fields (R FSGNJX_D d a b) h = refl
reading_fields (R FMIN_D d a b) h = refl
reading_fields (R FMAX_D d a b) h = refl
reading_fields (R FLE_D d a b) h = refl
reading_fields (R FLT_D d a b) h = refl
reading_fields (R FEQ_D d a b) h = refl
reading_fields (F FADD_D d a b m) h = refl
reading_fields (F FSUB_D d a b m) h = refl
reading_fields (F FMUL_D d a b m) h = refl
reading_fields (F FDIV_D d a b m) h = refl
reading_fields (C FSQRT_D d a m) h = refl
reading_fields (C FCVT_W_D d a m) h = refl
reading_fields (C FCVT_L_D d a m) h = refl
reading_fields (C FCVT_D_W d a m) h = refl
reading_fields (C FCVT_D_L d a m) h = refl
reading_fields (M FMV_X_D d a) h = refl
reading_fields (M FMV_D_X d a) h = refl
reading_fields (R4 FMADD_D d a b c m) h = rw (up4 c)
reading_fields (R4 FMSUB_D d a b c m) h = rw (up4 c)
reading_fields (R4 FNMSUB_D d a b c m) h = rw (up4 c)
reading_fields (R4 FNMADD_D d a b c m) h = rw (up4 c)
reading_fields (I ADDI d a z) h = rw (i_back z h.1.1.0)
reading_fields (I XORI d a z) h = rw (i_back z h.1.1.0)
reading_fields (I ORI d a z) h = rw (i_back z h.1.1.0)
reading_fields (I ANDI d a z) h = rw (i_back z h.1.1.0)
reading_fields (I JALR d a z) h = rw (i_back z h.1.1.0)
reading_fields (I LD d a z) h = rw (i_back z h.1.1.0)
reading_fields (I FLD d a z) h = rw (i_back z h.1.1.0)
reading_fields (I ADDIW d a z) h = rw (i_back z h.1.1.0)
reading_fields (Shift SLLI d a z) h = rw (shift_key_back 0 (twos 6 z) (twos_small 6 z), shamt_back 0 z h.1.1.0)
reading_fields (Shift SRLI d a z) h = rw (shift_key_back 0 (twos 6 z) (twos_small 6 z), shamt_back 0 z h.1.1.0)
reading_fields (Shift SRAI d a z) h = rw (shift_key_back 16 (twos 6 z) (twos_small 6 z), shamt_back 16 z h.1.1.0)
reading_fields (S SD a b z) h = rw (i_back z h.1.1.0)
reading_fields (S FSD a b z) h = rw (i_back z h.1.1.0)
reading_fields (B BEQ a b z) h = rw (b_back BEQ a b z h.1.1.0)
reading_fields (B BNE a b z) h = rw (b_back BNE a b z h.1.1.0)
reading_fields (B BLT a b z) h = rw (b_back BLT a b z h.1.1.0)
reading_fields (B BGE a b z) h = rw (b_back BGE a b z h.1.1.0)
reading_fields (B BLTU a b z) h = rw (b_back BLTU a b z h.1.1.0)
reading_fields (B BGEU a b z) h = rw (b_back BGEU a b z h.1.1.0)
reading_fields (U LUI d z) h = rw (u_back z h.1.0)
reading_fields (U AUIPC d z) h = rw (u_back z h.1.0)
reading_fields (J JAL d z) h = rw (j_back d z h.1.0)

pub rounding_small : (m : ℕ) → Holds (rounding free m) → m < 8
rounding_small m h = by (leb m 4) refl h
  where
    by : (b : Bool) → leb m 4 ≡ b → T (b || eqb m 7) → m < 8
    by true e t = omega (arith, leb-true m 4 e)
    by false e t = omega (arith, eqb→eq m 7 t)

-- every field is in its bits
pub fit : (i : Instr) → Valid i → Fit (fields i)
unfolding fields
fit (R ADD d a b) h = omega arith
fit (R SUB d a b) h = omega arith
fit (R SLL d a b) h = omega arith
fit (R XOR d a b) h = omega arith
fit (R SRL d a b) h = omega arith
fit (R SRA d a b) h = omega arith
fit (R OR d a b) h = omega arith
fit (R AND d a b) h = omega arith
fit (R FSGNJ_D d a b) h = omega arith
fit (R FSGNJN_D d a b) h = omega arith
fit (R FSGNJX_D d a b) h = omega arith
fit (R FMIN_D d a b) h = omega arith
fit (R FMAX_D d a b) h = omega arith
fit (R FLE_D d a b) h = omega arith
fit (R FLT_D d a b) h = omega arith
fit (R FEQ_D d a b) h = omega arith
fit (F FADD_D d a b m) h = omega (arith, rounding_small m h.1.1.1.0)
fit (F FSUB_D d a b m) h = omega arith
fit (F FMUL_D d a b m) h = omega arith
fit (F FDIV_D d a b m) h = omega arith
fit (C FSQRT_D d a m) h = omega arith
fit (C FCVT_W_D d a m) h = omega arith
fit (C FCVT_L_D d a m) h = omega (arith, rounding_small m h.1.1.0)
fit (C FCVT_D_W d a m) h = omega arith
fit (C FCVT_D_L d a m) h = omega arith
fit (M FMV_X_D d a) h = omega arith
fit (M FMV_D_X d a) h = omega arith
fit (R4 FMADD_D d a b c m) h = omega arith
fit (R4 FMSUB_D d a b c m) h = omega arith
fit (R4 FNMSUB_D d a b c m) h = omega arith
fit (R4 FNMADD_D d a b c m) h = omega arith
fit (I ADDI d a z) h = omega (arith, twos_small 12 z)
fit (I XORI d a z) h = omega (arith, twos_small 12 z)
fit (I ORI d a z) h = omega (arith, twos_small 12 z)
fit (I ANDI d a z) h = omega (arith, twos_small 12 z)
fit (I JALR d a z) h = omega (arith, twos_small 12 z)
fit (I LD d a z) h = omega (arith, twos_small 12 z)
fit (I FLD d a z) h = omega (arith, twos_small 12 z)
fit (I ADDIW d a z) h = omega (arith, twos_small 12 z)
fit (Shift SLLI d a z) h = omega (arith, twos_small 6 z)
fit (Shift SRLI d a z) h = omega (arith, twos_small 6 z)
fit (Shift SRAI d a z) h = omega (arith, twos_small 6 z)
fit (S SD a b z) h = omega (arith, twos_small 12 z)
fit (S FSD a b z) h = omega (arith, twos_small 12 z)
fit (B BEQ a b z) h = omega (arith, twos_small 13 z)
fit (B BNE a b z) h = omega (arith, twos_small 13 z)
fit (B BLT a b z) h = omega (arith, twos_small 13 z)
fit (B BGE a b z) h = omega (arith, twos_small 13 z)
fit (B BLTU a b z) h = omega (arith, twos_small 13 z)
fit (B BGEU a b z) h = omega (arith, twos_small 13 z)
fit (U LUI d z) h = omega (arith, twos_small 20 z)
fit (U AUIPC d z) h = omega (arith, twos_small 20 z)
fit (J JAL d z) h = omega (arith, twos_small 21 z)

-- Decoding a valid instruction's encoding gives it back.
pub decode_encode : (i : Instr) → Valid i → decode (encode i) ≡ some i
unfolding decode encode
decode_encode i h =
    ap (λ G. checked (encode i) (reading G)) (cut_join (fields i) (fit i h))
    ∙ (rw (reading_fields i h, Valid_valid i h, eq-eqb (encode i) (encode i) refl))

-- What decodes to i means that i is valid and the word is i's encoding.
pub encode_decode : (w : ℕ) (i : Instr) → decode w ≡ some i → Valid i × (encode i ≡ w)
unfolding decode
encode_decode w i e = by (reading (cut w)) e
  where
    passed : (j : Instr) (b : Bool) → (valid j && eqb (encode j) w) ≡ b → cond b (some j) none ≡ some i → Valid i × (encode i ≡ w)
    passed j true p q =
        let s : j ≡ i = cc in
        let t = both (valid j) (eqb (encode j) w) p in
        rw (← s) (valid_Valid j t.0, eqb-true _ _ t.1)
    passed j false p q = let z : ◌≡◌ {A = ℕ} 0 1 = cc in absurd (omega arith)

    by : (o : Option Instr) → checked w o ≡ some i → Valid i × (encode i ≡ w)
    by (some j) q = passed j (valid j && eqb (encode j) w) refl q
    by none q = let z : ◌≡◌ {A = ℕ} 0 1 = cc in absurd (omega arith)

-- An encoding is a 32-bit word.
pub encode_small : (i : Instr) → Valid i → encode i < 2 ^ 32
unfolding encode
encode_small i h = join_small (fields i) (fit i h)

-- Two different instructions never share a word.
pub encode_injective : (i j : Instr) → Valid i → Valid j → encode i ≡ encode j → i ≡ j
encode_injective i j h k e =
    let p : decode (encode i) ≡ some i = decode_encode i h in
    let q : decode (encode j) ≡ some j = decode_encode j k in
    let r : decode (encode i) ≡ some j = ap decode e ∙ q in
    cc
