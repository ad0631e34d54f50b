-- What each instruction does, from the RISC-V Unprivileged ISA Manual (RV64I, F and D). Flags aren't modelled.
use Rattle.std.specs.Prelude.{Bool, true, false, not, cond, ℕ, ◌+◌, ◌-◌, ◌*◌, ◌/◌, ◌%◌, ◌^◌, eqb, ltb, ℤ}
use Rattle.std.proofs.Math.Option.{Option, some, none}
use Rattle.std.specs.Int.Bits.{bit_and, bit_or, bit_xor}
use Rattle.isa.specs.Immediate.{twos}
use Rattle.isa.specs.Instr.{Instr, R, F, C, M, R4, I, Shift, S, B, U, J, ADD, SUB, SLL, XOR, SRL, SRA, OR, AND, FSGNJ_D}
use Rattle.isa.specs.Instr.{FSGNJN_D, FSGNJX_D, FMIN_D, FMAX_D, FLE_D, FLT_D, FEQ_D, FADD_D, FSUB_D, FMUL_D, FDIV_D, FSQRT_D}
use Rattle.isa.specs.Instr.{FCVT_W_D, FCVT_L_D, FCVT_D_W, FCVT_D_L, FMV_X_D, FMV_D_X, FMADD_D, FMSUB_D, FNMSUB_D, FNMADD_D}
use Rattle.isa.specs.Instr.{ADDI, XORI, ORI, ANDI, JALR, LD, FLD, ADDIW, SLLI, SRLI, SRAI, SD, FSD, BOp, BEQ, BNE, BLT, BGE, BLTU}
use Rattle.isa.specs.Instr.{BGEU, LUI, AUIPC, JAL}
use Rattle.machine.specs.Word.{w64, sext, upd, load8, store8}
use Rattle.machine.specs.Floats.{Floats}
use Rattle.machine.specs.State.{State, getx, setx, next}

-- An instruction does one of four things.
pub data Effect : Type 0 where
  write_x : (rd v : ℕ) → Effect  -- a register
  write_f : (rd v : ℕ) → Effect  -- a float register
  store : (a v : ℕ) → Effect  -- eight bytes at an address
  jump : (rd a : ℕ) → Effect  -- to an address; rd gets the address of the next word

-- All but a jump go on to the next word.
unfoldable pub apply : Effect → State → State
apply (write_x d v) s = record { pc = next s; x = setx s.x d v; f = s.f; rm = s.rm; mem = s.mem }
apply (write_f d v) s = record { pc = next s; x = s.x; f = upd s.f d v; rm = s.rm; mem = s.mem }
apply (store a v) s = record { pc = next s; x = s.x; f = s.f; rm = s.rm; mem = store8 s.mem a v }
apply (jump d a) s = record { pc = a; x = setx s.x d (next s); f = s.f; rm = s.rm; mem = s.mem }

-- ---- 64-bit whole numbers

-- a - b
abbrev pub minus : ℕ → ℕ → ℕ
minus a b = w64 (a + (2 ^ 64 - b))

-- signed numbers are in the order of these: moved up by 2^63
abbrev pub lifted : ℕ → ℕ
lifted a = w64 (a + 2 ^ 63)

-- shift right, the sign coming in: the signed number divided by 2^n, rounded down
abbrev pub shift_signed : ℕ → ℕ → ℕ
shift_signed a n = w64 (lifted a / 2 ^ n + (2 ^ 64 - 2 ^ 63 / 2 ^ n))

abbrev pub bit : Bool → ℕ
bit true = 1
bit false = 0

abbrev pub taken : BOp → ℕ → ℕ → Bool
taken BEQ a b = eqb a b
taken BNE a b = not (eqb a b)
taken BLT a b = ltb (lifted a) (lifted b)
taken BGE a b = not (ltb (lifted a) (lifted b))
taken BLTU a b = ltb a b
taken BGEU a b = not (ltb a b)

-- U format: the 20 bits stand from bit 12 up, sign-extended from bit 31
abbrev pub upper : ℤ → ℕ
upper z = sext 32 (twos 20 z * 2 ^ 12)

-- ---- float registers as bits: magnitude, and 2^63 where the sign is set

abbrev pub magnitude : ℕ → ℕ
magnitude v = v % 2 ^ 63

abbrev pub sign : ℕ → ℕ
sign v = v / 2 ^ 63

abbrev pub with_sign : ℕ → ℕ → ℕ
with_sign n v = n % 2 * 2 ^ 63 + magnitude v

-- a rounding field of 7 means the state's mode
abbrev pub mode : ℕ → State → ℕ
mode m s = cond (eqb m 7) s.rm m

-- ---- memory

-- a base register and an offset
abbrev pub address : State → ℕ → ℤ → ℕ
address s a z = w64 (getx s a + twos 64 z)

-- The address whose eight bytes an instruction reads or writes, if any.
abbrev pub access : Instr → State → Option ℕ
access (I LD d a z) s = some (address s a z)
access (I FLD d a z) s = some (address s a z)
access (S k a b z) s = some (address s a z)
access (I ADDI d a z) s = none
access (I XORI d a z) s = none
access (I ORI d a z) s = none
access (I ANDI d a z) s = none
access (I JALR d a z) s = none
access (I ADDIW d a z) s = none
access (R k d a b) s = none
access (F k d a b m) s = none
access (C k d a m) s = none
access (M k d a) s = none
access (R4 k d a b c m) s = none
access (Shift k d a z) s = none
access (B k a b z) s = none
access (U k d z) s = none
access (J k d z) s = none

module _ (Q : Floats) where
  unfoldable pub effect : Instr → State → Effect
  effect (R ADD d a b) s = write_x d (w64 (getx s a + getx s b))
  effect (R SUB d a b) s = write_x d (minus (getx s a) (getx s b))
  effect (R SLL d a b) s = write_x d (w64 (getx s a * 2 ^ (getx s b % 64)))
  effect (R XOR d a b) s = write_x d (bit_xor (getx s a) (getx s b))
  effect (R SRL d a b) s = write_x d (w64 (getx s a / 2 ^ (getx s b % 64)))
  effect (R SRA d a b) s = write_x d (shift_signed (getx s a) (getx s b % 64))
  effect (R OR d a b) s = write_x d (bit_or (getx s a) (getx s b))
  effect (R AND d a b) s = write_x d (bit_and (getx s a) (getx s b))
  effect (R FSGNJ_D d a b) s = write_f d (with_sign (sign (s.f b)) (s.f a))
  effect (R FSGNJN_D d a b) s = write_f d (with_sign (sign (s.f b) + 1) (s.f a))
  effect (R FSGNJX_D d a b) s = write_f d (with_sign (sign (s.f a) + sign (s.f b)) (s.f a))
  effect (R FMIN_D d a b) s = write_f d (w64 (Q.min s.rm (s.f a) (s.f b)))
  effect (R FMAX_D d a b) s = write_f d (w64 (Q.max s.rm (s.f a) (s.f b)))
  effect (R FLE_D d a b) s = write_x d (bit (Q.le s.rm (s.f a) (s.f b)))
  effect (R FLT_D d a b) s = write_x d (bit (Q.lt s.rm (s.f a) (s.f b)))
  effect (R FEQ_D d a b) s = write_x d (bit (Q.eq s.rm (s.f a) (s.f b)))
  effect (F FADD_D d a b m) s = write_f d (w64 (Q.add (mode m s) (s.f a) (s.f b)))
  effect (F FSUB_D d a b m) s = write_f d (w64 (Q.sub (mode m s) (s.f a) (s.f b)))
  effect (F FMUL_D d a b m) s = write_f d (w64 (Q.mul (mode m s) (s.f a) (s.f b)))
  effect (F FDIV_D d a b m) s = write_f d (w64 (Q.div (mode m s) (s.f a) (s.f b)))
  effect (C FSQRT_D d a m) s = write_f d (w64 (Q.sqrt (mode m s) (s.f a)))
  -- 32 bits, sign-extended
  effect (C FCVT_W_D d a m) s = write_x d (sext 32 (Q.to_w (mode m s) (s.f a)))
  effect (C FCVT_L_D d a m) s = write_x d (w64 (Q.to_l (mode m s) (s.f a)))
  -- the low 32 bits
  effect (C FCVT_D_W d a m) s = write_f d (w64 (Q.of_w (mode m s) (getx s a % 2 ^ 32)))
  effect (C FCVT_D_L d a m) s = write_f d (w64 (Q.of_l (mode m s) (getx s a)))
  effect (M FMV_X_D d a) s = write_x d (s.f a)
  effect (M FMV_D_X d a) s = write_f d (getx s a)
  effect (R4 FMADD_D d a b c m) s = write_f d (w64 (Q.mul_add (mode m s) (s.f a) (s.f b) (s.f c)))
  effect (R4 FMSUB_D d a b c m) s = write_f d (w64 (Q.mul_sub (mode m s) (s.f a) (s.f b) (s.f c)))
  -- -(a × b) + c, and -(a × b) - c
  effect (R4 FNMSUB_D d a b c m) s = write_f d (w64 (Q.neg_mul_add (mode m s) (s.f a) (s.f b) (s.f c)))
  effect (R4 FNMADD_D d a b c m) s = write_f d (w64 (Q.neg_mul_sub (mode m s) (s.f a) (s.f b) (s.f c)))
  effect (I ADDI d a z) s = write_x d (w64 (getx s a + twos 64 z))
  effect (I XORI d a z) s = write_x d (bit_xor (getx s a) (twos 64 z))
  effect (I ORI d a z) s = write_x d (bit_or (getx s a) (twos 64 z))
  effect (I ANDI d a z) s = write_x d (bit_and (getx s a) (twos 64 z))
  -- bit 0 is cleared; the target is read before the link is written
  effect (I JALR d a z) s = jump d (w64 (getx s a + twos 64 z) / 2 * 2)
  effect (I LD d a z) s = write_x d (load8 s.mem (address s a z))
  effect (I FLD d a z) s = write_f d (load8 s.mem (address s a z))
  -- the low 32 bits of the sum, sign-extended
  effect (I ADDIW d a z) s = write_x d (sext 32 (getx s a + twos 64 z))
  effect (Shift SLLI d a z) s = write_x d (w64 (getx s a * 2 ^ twos 6 z))
  effect (Shift SRLI d a z) s = write_x d (w64 (getx s a / 2 ^ twos 6 z))
  effect (Shift SRAI d a z) s = write_x d (shift_signed (getx s a) (twos 6 z))
  effect (S SD a b z) s = store (address s a z) (getx s b)
  effect (S FSD a b z) s = store (address s a z) (s.f b)
  effect (B k a b z) s = jump 0 (cond (taken k (getx s a) (getx s b)) (w64 (s.pc + twos 64 z)) (next s))
  effect (U LUI d z) s = write_x d (upper z)
  effect (U AUIPC d z) s = write_x d (w64 (s.pc + upper z))
  effect (J JAL d z) s = jump d (w64 (s.pc + twos 64 z))

  abbrev pub exec : Instr → State → State
  exec i s = apply (effect i s) s
