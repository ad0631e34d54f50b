-- What an effect depends on: pc, the registers, the rounding mode, and the bytes that the instruction accesses; and where it writes. Assumes nothing.
use mathlib.Core.Path.{◌≡◌, refl, ap, ◌∙◌, fun_ext}
use mathlib.Core.Option.{Option, some, none}
use Prim.Native.Nat.{ℕ}
use Rattle.isa.specs.Instr.{Instr, R, F, C, M, R4, I, Shift, S, B, U, J, ADDI, XORI, ORI, ANDI, JALR, LD, FLD, ADDIW, ADD, SUB, SLL, XOR, SRL, SRA, OR, AND, FSGNJ_D, FSGNJN_D, FSGNJX_D, FMIN_D, FMAX_D, FLE_D, FLT_D, FEQ_D, FADD_D, FSUB_D, FMUL_D, FDIV_D, FSQRT_D, FCVT_W_D, FCVT_L_D, FCVT_D_W, FCVT_D_L, FMV_X_D, FMV_D_X, FMADD_D, FMSUB_D, FNMSUB_D, FNMADD_D, SLLI, SRLI, SRAI, SD, FSD, LUI, AUIPC, JAL}
use Rattle.machine.specs.Floats.{Floats}
use Rattle.machine.specs.State.{State}
use Rattle.machine.specs.Effect.{Effect, write_x, write_f, store, jump, address, access, effect}
use Rattle.machine.proofs.Memory.{Agree, load8_local}

-- the same eight bytes at the address, if there is one
abbrev pub Seen : Option ℕ → (ℕ → ℕ) → (ℕ → ℕ) → Type 0
Seen (some a) m m' = Agree m m' a 8
Seen none m m' = Unit {0}

-- a store goes to that address
abbrev pub Writes : Effect → Option ℕ → Type 0
Writes (write_x d v) o = Unit {0}
Writes (write_f d v) o = Unit {0}
Writes (store a v) o = o ≡ some a
Writes (jump d a) o = Unit {0}

abbrev with_mem : State → (ℕ → ℕ) → State
with_mem s m = record { pc = s.pc; x = s.x; f = s.f; rm = s.rm; mem = m }

module _ (Q : Floats) where
  both : (i : Instr) (s : State) (m : ℕ → ℕ) → Seen (access i s) s.mem m → (effect Q i s ≡ effect Q i (with_mem s m)) × Writes (effect Q i s) (access i s)
  unfolding effect
  both (R ADD d a b) s m h = (refl, tt)
  both (R SUB d a b) s m h = (refl, tt)
  both (R SLL d a b) s m h = (refl, tt)
  both (R XOR d a b) s m h = (refl, tt)
  both (R SRL d a b) s m h = (refl, tt)
  both (R SRA d a b) s m h = (refl, tt)
  both (R OR d a b) s m h = (refl, tt)
  both (R AND d a b) s m h = (refl, tt)
  both (R FSGNJ_D d a b) s m h = (refl, tt)
  both (R FSGNJN_D d a b) s m h = (refl, tt)
  both (R FSGNJX_D d a b) s m h = (refl, tt)
  both (R FMIN_D d a b) s m h = (refl, tt)
  both (R FMAX_D d a b) s m h = (refl, tt)
  both (R FLE_D d a b) s m h = (refl, tt)
  both (R FLT_D d a b) s m h = (refl, tt)
  both (R FEQ_D d a b) s m h = (refl, tt)
  both (F FADD_D d a b r) s m h = (refl, tt)
  both (F FSUB_D d a b r) s m h = (refl, tt)
  both (F FMUL_D d a b r) s m h = (refl, tt)
  both (F FDIV_D d a b r) s m h = (refl, tt)
  both (C FSQRT_D d a r) s m h = (refl, tt)
  both (C FCVT_W_D d a r) s m h = (refl, tt)
  both (C FCVT_L_D d a r) s m h = (refl, tt)
  both (C FCVT_D_W d a r) s m h = (refl, tt)
  both (C FCVT_D_L d a r) s m h = (refl, tt)
  both (M FMV_X_D d a) s m h = (refl, tt)
  both (M FMV_D_X d a) s m h = (refl, tt)
  both (R4 FMADD_D d a b c r) s m h = (refl, tt)
  both (R4 FMSUB_D d a b c r) s m h = (refl, tt)
  both (R4 FNMSUB_D d a b c r) s m h = (refl, tt)
  both (R4 FNMADD_D d a b c r) s m h = (refl, tt)
  both (I ADDI d a z) s m h = (refl, tt)
  both (I XORI d a z) s m h = (refl, tt)
  both (I ORI d a z) s m h = (refl, tt)
  both (I ANDI d a z) s m h = (refl, tt)
  both (I JALR d a z) s m h = (refl, tt)
  both (I LD d a z) s m h = (ap (write_x d) (load8_local s.mem m (address s a z) h), tt)
  both (I FLD d a z) s m h = (ap (write_f d) (load8_local s.mem m (address s a z) h), tt)
  both (I ADDIW d a z) s m h = (refl, tt)
  both (Shift SLLI d a z) s m h = (refl, tt)
  both (Shift SRLI d a z) s m h = (refl, tt)
  both (Shift SRAI d a z) s m h = (refl, tt)
  both (S SD a b z) s m h = (refl, refl)
  both (S FSD a b z) s m h = (refl, refl)
  both (B k a b z) s m h = (refl, tt)
  both (U LUI d z) s m h = (refl, tt)
  both (U AUIPC d z) s m h = (refl, tt)
  both (J JAL d z) s m h = (refl, tt)

  -- Two states that agree on these have the same effect.
  pub effect_local : (i : Instr) (s t : State) → s.pc ≡ t.pc → ((r : ℕ) → s.x r ≡ t.x r) → ((r : ℕ) → s.f r ≡ t.f r) → s.rm ≡ t.rm → Seen (access i s) s.mem t.mem → effect Q i s ≡ effect Q i t
  effect_local i s t p x f r h = (both i s t.mem h).0 ∙ ap (effect Q i) same
    where
      same : with_mem s t.mem ≡ t
      same = λ j. record { pc = p j; x = fun_ext x j; f = fun_ext f j; rm = r j; mem = t.mem }

  -- What is written is written at the address that the instruction accesses.
  pub store_access : (i : Instr) (s : State) → Writes (effect Q i s) (access i s)
  store_access i s = (both i s s.mem (same (access i s))).1
    where
      same : (o : Option ℕ) → Seen o s.mem s.mem
      same (some a) = λ x l d. refl
      same none = tt
