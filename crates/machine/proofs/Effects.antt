-- What an effect leaves alone, and that a state stays a machine's. Assumes nothing.
use mathlib.Core.Path.{◌≡◌, refl}
use mathlib.Core.Logic.{◌≢◌}
use mathlib.Core.Bool.{Bool, true, false, not, ◌||◌, cond}
use Prim.Native.Nat.{ℕ, ◌^◌, ◌<◌}
use native.Mathlib.Omega.{arith}
use borrow.Author.Tests.{ne_eqb, eqb-false}
use lib.Dec.{T, eqb, ltb, T_not, lit<}
use lib.Bits.{and_lt, or_lt, xor_lt}
use lib.IntN.{ℤ, pos, negsuc}
use Rattle.isa.specs.Immediate.{twos}
use Rattle.isa.specs.Instr.{Instr, R, F, C, M, R4, I, Shift, S, B, U, J, ADD, SUB, SLL, XOR, SRL, SRA, OR, AND, FSGNJ_D, FSGNJN_D, FSGNJX_D, FMIN_D, FMAX_D, FLE_D, FLT_D, FEQ_D, FADD_D, FSUB_D, FMUL_D, FDIV_D, FSQRT_D, FCVT_W_D, FCVT_L_D, FCVT_D_W, FCVT_D_L, FMV_X_D, FMV_D_X, FMADD_D, FMSUB_D, FNMSUB_D, FNMADD_D, ADDI, XORI, ORI, ANDI, JALR, LD, FLD, ADDIW, SLLI, SRLI, SRAI, SD, FSD, LUI, AUIPC, JAL}
use Rattle.machine.specs.Word.{upd, store8, dist}
use Rattle.machine.specs.Floats.{Floats}
use Rattle.machine.specs.State.{State, getx, setx, next, Sound}
use Rattle.machine.specs.Effect.{Effect, write_x, write_f, store, jump, apply, bit, taken, effect}
use Rattle.machine.proofs.Memory.{upd_same, upd_other, upd_twice, load8_small}

-- ---- two tests in one

-- ---- tests on an effect

-- no jump
abbrev pub flows : Effect → Bool
flows (write_x d v) = true
flows (write_f d v) = true
flows (store a v) = true
flows (jump d a) = false

-- neither a jump nor a store
abbrev pub quiet : Effect → Bool
quiet (write_x d v) = true
quiet (write_f d v) = true
quiet (store a v) = false
quiet (jump d a) = false

pub quiet_flows : (e : Effect) → T (quiet e) → T (flows e)
quiet_flows (write_x d v) h = tt
quiet_flows (write_f d v) h = tt
quiet_flows (store a v) h = tt
quiet_flows (jump d a) h = h

pub apply_pc : (e : Effect) (s : State) → T (flows e) → (apply e s).pc ≡ next s
unfolding apply
apply_pc (write_x d v) s h = refl
apply_pc (write_f d v) s h = refl
apply_pc (store a v) s h = refl
apply_pc (jump d a) s h = absurd h

pub apply_mem : (e : Effect) (s : State) → T (quiet e) → (apply e s).mem ≡ s.mem
unfolding apply
apply_mem (write_x d v) s h = refl
apply_mem (write_f d v) s h = refl
apply_mem (store a v) s h = absurd h
apply_mem (jump d a) s h = absurd h

-- no instruction changes the rounding mode
pub apply_rm : (e : Effect) (s : State) → (apply e s).rm ≡ s.rm
unfolding apply
apply_rm (write_x d v) s = refl
apply_rm (write_f d v) s = refl
apply_rm (store a v) s = refl
apply_rm (jump d a) s = refl

-- ---- registers

pub setx_other : (x : ℕ → ℕ) (d v r : ℕ) → r ≢ d → setx x d v r ≡ x r
unfolding setx
setx_other x d v r h = by (eqb d 0)
  where
    by : (b : Bool) → cond b x (upd x d v) r ≡ x r
    by true = refl
    by false = upd_other x d v r h

pub setx_zero : (x : ℕ → ℕ) (d v : ℕ) → eqb d 0 ≡ true → setx x d v ≡ x
unfolding setx
setx_zero x d v e = rw e

pub setx_same : (x : ℕ → ℕ) (d v : ℕ) → d ≢ 0 → setx x d v d ≡ v
unfolding setx
setx_same x d v h = rw (ne_eqb d 0 h) (upd_same x d v)

-- what `getx` reads of a register just written, x0 too
pub getx_same : (x : ℕ → ℕ) (d v : ℕ) → cond (eqb d 0) 0 (setx x d v d) ≡ cond (eqb d 0) 0 v
getx_same x d v = by (eqb d 0) refl
  where
    by : (b : Bool) → eqb d 0 ≡ b → cond b 0 (setx x d v d) ≡ cond b 0 v
    by true e = refl
    by false e = setx_same x d v (eqb-false d 0 e)

-- the last write counts
pub setx_twice : (x : ℕ → ℕ) (d u v : ℕ) → setx (setx x d u) d v ≡ setx x d v
unfolding setx
setx_twice x d u v = by (eqb d 0)
  where
    by : (b : Bool) → cond b (cond b x (upd x d u)) (upd (cond b x (upd x d u)) d v) ≡ cond b x (upd x d v)
    by true = refl
    by false = upd_twice x d u v

-- registers outside a set W
module _ (W : ℕ → Bool) where
  -- only a register of W, or x0
  abbrev pub within : Effect → Bool
  within (write_x d v) = eqb d 0 || W d
  within (write_f d v) = true
  within (store a v) = true
  within (jump d a) = eqb d 0 || W d

  kept : (x : ℕ → ℕ) (d v r : ℕ) → T (eqb d 0 || W d) → T (not (W r)) → setx x d v r ≡ x r
  kept x d v r h k = by (eqb d 0) refl h
    where
      by : (b : Bool) → eqb d 0 ≡ b → T (b || W d) → setx x d v r ≡ x r
      by true e l = rw (setx_zero x d v e)
      by false e l = setx_other x d v r (λ q. T_not (W d) (rw q at k) l)

  pub apply_x : (e : Effect) (s : State) (r : ℕ) → T (within e) → T (not (W r)) → (apply e s).x r ≡ s.x r
  unfolding apply
  apply_x (write_x d v) s r h k = kept s.x d v r h k
  apply_x (write_f d v) s r h k = refl
  apply_x (store a v) s r h k = refl
  apply_x (jump d a) s r h k = kept s.x d (next s) r h k

-- ---- a machine's state stays one

-- the values of an effect are 64-bit numbers
abbrev pub Fits : Effect → Type 0
Fits (write_x d v) = v < 2 ^ 64
Fits (write_f d v) = v < 2 ^ 64
Fits (store a v) = v < 2 ^ 64
Fits (jump d a) = a < 2 ^ 64

cond_all : (P : ℕ → Type 0) (b : Bool) (u v : ℕ) → P u → P v → P (cond b u v)
cond_all P true u v p q = p
cond_all P false u v p q = q

upd_all : (g : ℕ → ℕ) (k v n : ℕ) → v < n → ((r : ℕ) → g r < n) → (r : ℕ) → upd g k v r < n
unfolding upd
upd_all g k v n p q r = cond_all (λ u. u < n) (eqb r k) v (g r) p (q r)

setx_all : (g : ℕ → ℕ) (k v n : ℕ) → v < n → ((r : ℕ) → g r < n) → (r : ℕ) → setx g k v r < n
unfolding setx
setx_all g k v n p q r = by (eqb k 0)
  where
    by : (b : Bool) → cond b g (upd g k v) r < n
    by true = q r
    by false = upd_all g k v n p q r

store_all : (m : ℕ → ℕ) (a v : ℕ) → ((x : ℕ) → m x < 256) → (x : ℕ) → store8 m a v x < 256
unfolding store8
store_all m a v h x = cond_all (λ n. n < 256) (ltb (dist a x) 8) _ (m x) (omega arith) (h x)

pub apply_sound : (e : Effect) (s : State) → Fits e → Sound s → Sound (apply e s)
unfolding apply
apply_sound (write_x d v) s h w = record { pc = omega arith; x = setx_all s.x d v (2 ^ 64) h w.x; f = w.f; rm = w.rm; mem = w.mem }
apply_sound (write_f d v) s h w = record { pc = omega arith; x = w.x; f = upd_all s.f d v (2 ^ 64) h w.f; rm = w.rm; mem = w.mem }
apply_sound (store a v) s h w = record { pc = omega arith; x = w.x; f = w.f; rm = w.rm; mem = store_all s.mem a v w.mem }
apply_sound (jump d a) s h w = record { pc = h; x = setx_all s.x d (next s) (2 ^ 64) (omega arith) w.x; f = w.f; rm = w.rm; mem = w.mem }

pub bit_small : (b : Bool) → bit b < 2 ^ 64
bit_small true = lit< tt
bit_small false = lit< tt

pub getx_small : (s : State) (r : ℕ) → Sound s → getx s r < 2 ^ 64
getx_small s r w = cond_all (λ n. n < 2 ^ 64) (eqb r 0) 0 (s.x r) (lit< tt) (w.x r)

pub twos_small : (z : ℤ) → twos 64 z < 2 ^ 64
twos_small (pos n) = omega arith
twos_small (negsuc n) = omega arith

pub effect_fits : (Q : Floats) (i : Instr) (s : State) → Sound s → Fits (effect Q i s)
unfolding effect
effect_fits Q (R ADD d a b) s w = omega arith
effect_fits Q (R SUB d a b) s w = omega arith
effect_fits Q (R SLL d a b) s w = omega arith
effect_fits Q (R XOR d a b) s w = xor_lt 64 _ _ (getx_small s a w) (getx_small s b w)
effect_fits Q (R SRL d a b) s w = omega arith
effect_fits Q (R SRA d a b) s w = omega arith
effect_fits Q (R OR d a b) s w = or_lt 64 _ _ (getx_small s a w) (getx_small s b w)
effect_fits Q (R AND d a b) s w = and_lt 64 _ _ (getx_small s a w) (getx_small s b w)
effect_fits Q (R FSGNJ_D d a b) s w = omega arith
effect_fits Q (R FSGNJN_D d a b) s w = omega arith
effect_fits Q (R FSGNJX_D d a b) s w = omega arith
effect_fits Q (R FMIN_D d a b) s w = omega arith
effect_fits Q (R FMAX_D d a b) s w = omega arith
effect_fits Q (R FLE_D d a b) s w = bit_small (Q.le s.rm (s.f a) (s.f b))
effect_fits Q (R FLT_D d a b) s w = bit_small (Q.lt s.rm (s.f a) (s.f b))
effect_fits Q (R FEQ_D d a b) s w = bit_small (Q.eq s.rm (s.f a) (s.f b))
effect_fits Q (F FADD_D d a b m) s w = omega arith
effect_fits Q (F FSUB_D d a b m) s w = omega arith
effect_fits Q (F FMUL_D d a b m) s w = omega arith
effect_fits Q (F FDIV_D d a b m) s w = omega arith
effect_fits Q (C FSQRT_D d a m) s w = omega arith
effect_fits Q (C FCVT_W_D d a m) s w = omega arith
effect_fits Q (C FCVT_L_D d a m) s w = omega arith
effect_fits Q (C FCVT_D_W d a m) s w = omega arith
effect_fits Q (C FCVT_D_L d a m) s w = omega arith
effect_fits Q (M FMV_X_D d a) s w = w.f a
effect_fits Q (M FMV_D_X d a) s w = getx_small s a w
effect_fits Q (R4 FMADD_D d a b c m) s w = omega arith
effect_fits Q (R4 FMSUB_D d a b c m) s w = omega arith
effect_fits Q (R4 FNMSUB_D d a b c m) s w = omega arith
effect_fits Q (R4 FNMADD_D d a b c m) s w = omega arith
effect_fits Q (I ADDI d a z) s w = omega arith
effect_fits Q (I XORI d a z) s w = xor_lt 64 (getx s a) (twos 64 z) (getx_small s a w) (twos_small z)
effect_fits Q (I ORI d a z) s w = or_lt 64 (getx s a) (twos 64 z) (getx_small s a w) (twos_small z)
effect_fits Q (I ANDI d a z) s w = and_lt 64 (getx s a) (twos 64 z) (getx_small s a w) (twos_small z)
effect_fits Q (I JALR d a z) s w = omega arith
effect_fits Q (I LD d a z) s w = load8_small s.mem _ w.mem
effect_fits Q (I FLD d a z) s w = load8_small s.mem _ w.mem
effect_fits Q (I ADDIW d a z) s w = omega arith
effect_fits Q (Shift SLLI d a z) s w = omega arith
effect_fits Q (Shift SRLI d a z) s w = omega arith
effect_fits Q (Shift SRAI d a z) s w = omega arith
effect_fits Q (S SD a b z) s w = getx_small s b w
effect_fits Q (S FSD a b z) s w = w.f b
effect_fits Q (B k a b z) s w = cond_all (λ n. n < 2 ^ 64) (taken k (getx s a) (getx s b)) _ _ (omega arith) (omega arith)
effect_fits Q (U LUI d z) s w = omega arith
effect_fits Q (U AUIPC d z) s w = omega arith
effect_fits Q (J JAL d z) s w = omega arith
