-- What each outcome of the checks answers, and the words of each format. Assumes nothing.
use mathlib.Core.Path.{◌≡◌, refl, sym, ap, ap₂, ◌∙◌}
use mathlib.Core.Bool.{Bool, true, false, cond, and-false}
use mathlib.Core.List.{List, [], ◌∷◌, ◌++◌, map}
use Prim.Native.Nat.{ℕ, zero, suc, ◌+◌, ◌*◌, ◌/◌, ◌%◌, ◌<◌}
use native.Mathlib.Omega.{arith}
use lib.Dec.{ltb}
use lib.IntN.{ℤ, pos}
use lib.ListN.{length, get_or, take, drop}
use lib.Seq.{get_or-append-add}
use Rattle.isa.specs.Immediate.{twos}
use Rattle.isa.specs.Instr.{Instr, R, F, C, M, R4, I, Shift, S, B, U, J, ADD, FADD_D, FSQRT_D, FMV_X_D, FMADD_D, ADDI, SLLI, SD, BEQ, LUI, JAL, Operand, register, holds, operands, registers_hold, valid}
use Rattle.base.specs.Tests.{all}
use Rattle.isa.specs.Encode.{encode}
use Rattle.isa.specs.Decode.{r_ops, f_ops, c_ops, m_ops, r4_ops, i_ops, shift_ops, s_ops, b_ops, u_ops, j_ops}
use Rattle.isa.proofs.Validity.{Valid, valid_Valid, Valid_valid, Valid_registers}
use Rattle.base.proofs.Bools.{both, T_true, true_T}
use Rattle.isa.proofs.Laws.{encode_small}
use Rattle.isa.proofs.Words.{encode_R, encode_F, encode_C, encode_M, encode_R4, encode_I, encode_Shift, encode_S, encode_B, encode_U, encode_J}
use Rattle.refusal.specs.Answer.{Answer, accepted, refused}
use Rattle.std.specs.Prelude.{Ok, Err}
use Rattle.std.specs.Result.{is_ok, result_unwrap_or}
use Rattle.encoder.specs.Answer.{Encoded, word_answer, encoded, AcceptedValid}
use Rattle.encoder.specs.Inner.Field.{packed, register_answer}
use Rattle.encoder.specs.Table.{rows, row_of}
use Rattle.encoder.proofs.Fields.{Unfit}

-- ---- answers

module _ (i : Instr) where
  pub bad_register : registers_hold (operands i) ≡ false → refused 1 0 ≡ encoded i
  unfolding encoded
  bad_register e = rw e

  pub bad_value : registers_hold (operands i) ≡ true → valid i ≡ false → refused 2 0 ≡ encoded i
  unfolding encoded
  bad_value r e = rw (r, e)

  module _ (v : valid i ≡ true) (w : ℕ) (e : w ≡ encode i) where
    pub small : w < 4294967296
    small = rw e (encode_small i (valid_Valid i v))

    pub good : registers_hold (operands i) ≡ true → accepted w ≡ encoded i
    unfolding encoded
    good r = rw (r, v, e)

-- what was demanded: it held, or it did not and its refusal is told
pub held : (b : Bool) (k : ℕ) {u : Unit {0}} → accepted u ≡ cond b (accepted tt) (refused k 0) → b ≡ true
held true k e = refl
held false k e = let z : ◌≡◌ {A = ℕ} 0 1 = cc in absurd (omega arith)

pub unheld : (b : Bool) (m : ℕ) {k p : ℕ} → ◌≡◌ {A = Answer (Unit {0})} (refused k p) (cond b (accepted tt) (refused m 0)) → (b ≡ false) × ◌≡◌ {A = Answer ℕ} (refused k p) (refused m 0)
unheld true m e = let z : ◌≡◌ {A = ℕ} 0 1 = cc in absurd (omega arith)
unheld false m {k} {p} e = let x : k ≡ m = cc in let y : p ≡ 0 = cc in (refl, ap₂ refused x y)

module _ (i : Instr) where
  pub refused_register : {k p : ℕ} → refused k p ≡ register_answer (operands i) → refused k p ≡ encoded i
  refused_register e = let u = unheld (registers_hold (operands i)) 1 e in u.1 ∙ bad_register i u.0

  -- of registers alone
  module _ (e : accepted tt ≡ register_answer (operands i)) (only : valid i ≡ registers_hold (operands i)) (w : ℕ) (q : w ≡ encode i) where
    all_hold : registers_hold (operands i) ≡ true
    all_hold = held (registers_hold (operands i)) 1 e

    pub small_registers : w < 4294967296
    small_registers = small i (only ∙ all_hold) w q

    pub good_registers : accepted w ≡ encoded i
    good_registers = good i (only ∙ all_hold) w q all_hold

-- the last operand o, a value, decides once the registers before it have passed
module _ (o : Operand) where
  pub inside : (rs : List ℕ) → registers_hold (map register rs) ≡ true → holds o ≡ true → all holds (map register rs ++ (o ∷ [])) ≡ true
  inside [] p e = rw e
  inside (r ∷ rs) p e = let q = both (ltb r 32) _ p in rw q.0 (inside rs q.1 e)

  pub outside : (rs : List ℕ) → holds o ≡ false → all holds (map register rs ++ (o ∷ [])) ≡ false
  outside [] e = rw e
  outside (r ∷ rs) e = rw (outside rs e) (and-false (ltb r 32))

  registers_alone : (rs : List ℕ) → (registers_hold (o ∷ []) ≡ true) → registers_hold (map register rs) ≡ true → registers_hold (map register rs ++ (o ∷ [])) ≡ true
  registers_alone [] v p = v
  registers_alone (r ∷ rs) v p = let q = both (ltb r 32) _ p in rw q.0 (registers_alone rs v q.1)

module _ (i : Instr) (rs : List ℕ) (o : Operand) (is : operands i ≡ map register rs ++ (o ∷ [])) (last : registers_hold (o ∷ []) ≡ true) (e : accepted tt ≡ register_answer (map register rs)) where
  before : registers_hold (map register rs) ≡ true
  before = held (registers_hold (map register rs)) 1 e

  passed : registers_hold (operands i) ≡ true
  passed = rw is (registers_alone o rs last before)

  pub refused_value : {k p : ℕ} → Unfit k p (holds o) → refused k p ≡ encoded i
  refused_value u = u.1 ∙ bad_value i passed (ap (all holds) is ∙ outside o rs u.0)

  module _ (h : holds o ≡ true) (w : ℕ) (q : w ≡ encode i) where
    fit : valid i ≡ true
    fit = ap (all holds) is ∙ inside o rs before h

    pub small_value : w < 4294967296
    small_value = small i fit w q

    pub good_value : accepted w ≡ encoded i
    good_value = good i fit w q passed

-- What the encoder accepts is valid, and the word is its encoding; what is valid it accepts.
pub accepted_valid : (i : Instr) (w : ℕ) → encoded i ≡ accepted w → Valid i × (w ≡ encode i)
unfolding encoded
accepted_valid i w e = by (registers_hold (operands i)) (valid i) refl e
  where
    by : (r v : Bool) → valid i ≡ v → cond r (cond v (accepted (encode i)) (refused 2 0)) (refused 1 0) ≡ accepted w → Valid i × (w ≡ encode i)
    by true true p q = (valid_Valid i p, cc)
    by true false p q = let z : ◌≡◌ {A = ℕ} 0 1 = cc in absurd (omega arith)
    by false v p q = let z : ◌≡◌ {A = ℕ} 0 1 = cc in absurd (omega arith)

pub valid_accepted : (i : Instr) → Valid i → encoded i ≡ accepted (encode i)
valid_accepted i h = sym (good i (Valid_valid i h) (encode i) refl (Valid_registers i h))

pub accepted_is_valid : AcceptedValid
accepted_is_valid i = (λ w e. let q = accepted_valid i w e in (true_T (valid i) (Valid_valid i q.0), q.1), λ h. valid_accepted i (valid_Valid i (T_true (valid i) h)))

-- the same of an answer itself
module _ (i : Instr) where
  pub ok_valid : (e : Encoded) → word_answer e ≡ encoded i → is_ok e ≡ valid i
  ok_valid (Ok w) h = sym (Valid_valid i (accepted_valid i w (sym h)).0)
  ok_valid (Err r) h = by (valid i) refl
    where
      by : (t : Bool) → valid i ≡ t → false ≡ t
      by false q = refl
      by true q =
          let f = valid_accepted i (valid_Valid i q) in
          let z : ◌≡◌ {A = ℕ} 0 1 = cc in absurd (omega arith)

  pub ok_word : (e : Encoded) → word_answer e ≡ encoded i → valid i ≡ true → result_unwrap_or e 0 ≡ encode i
  ok_word (Ok w) h v = (accepted_valid i w (sym h)).1
  ok_word (Err r) h v = let z : false ≡ true = ok_valid (Err r) h ∙ v in cc

-- ---- the row of an operation, by its place in the table

module _ {K : Type 0} (f : K → Instr) (k : K) where
  mapped : (l : List K) (after : List Instr) (n : ℕ) → n < length l → (d : Instr) → get_or (map f l ++ after) n d ≡ f (get_or l n k)
  mapped [] after n h d = absurd (omega arith)
  mapped (x ∷ xs) after zero h d = refl
  mapped (x ∷ xs) after (suc n) h d = mapped xs after n (omega arith) d

  row_in : (before : List Instr) (l : List K) (after : List Instr) (n : ℕ) → n < length l
      → get_or (before ++ (map f l ++ after)) (length before + n) (R ADD 0 0 0) ≡ f (get_or l n k)
  row_in before l after n h = get_or-append-add before (map f l ++ after) n (R ADD 0 0 0) ∙ mapped l after n h (R ADD 0 0 0)

module _ (op : ℕ) where
  pub row_R : op < 16 → row_of op ≡ R (get_or r_ops op ADD) 0 0 0
  row_R h = mapped (λ k. R k 0 0 0) ADD r_ops (drop 16 rows) op h (R ADD 0 0 0)

  pub row_F : op < 4 → row_of (16 + op) ≡ F (get_or f_ops op FADD_D) 0 0 0 0
  row_F h = row_in (λ k. F k 0 0 0 0) FADD_D (take 16 rows) f_ops (drop 20 rows) op h

  pub row_C : op < 5 → row_of (20 + op) ≡ C (get_or c_ops op FSQRT_D) 0 0 0
  row_C h = row_in (λ k. C k 0 0 0) FSQRT_D (take 20 rows) c_ops (drop 25 rows) op h

  pub row_M : op < 2 → row_of (25 + op) ≡ M (get_or m_ops op FMV_X_D) 0 0
  row_M h = row_in (λ k. M k 0 0) FMV_X_D (take 25 rows) m_ops (drop 27 rows) op h

  pub row_R4 : op < 4 → row_of (27 + op) ≡ R4 (get_or r4_ops op FMADD_D) 0 0 0 0 0
  row_R4 h = row_in (λ k. R4 k 0 0 0 0 0) FMADD_D (take 27 rows) r4_ops (drop 31 rows) op h

  pub row_I : op < 8 → row_of (31 + op) ≡ I (get_or i_ops op ADDI) 0 0 (pos 0)
  row_I h = row_in (λ k. I k 0 0 (pos 0)) ADDI (take 31 rows) i_ops (drop 39 rows) op h

  pub row_Shift : op < 3 → row_of (39 + op) ≡ Shift (get_or shift_ops op SLLI) 0 0 (pos 0)
  row_Shift h = row_in (λ k. Shift k 0 0 (pos 0)) SLLI (take 39 rows) shift_ops (drop 42 rows) op h

  pub row_S : op < 2 → row_of (42 + op) ≡ S (get_or s_ops op SD) 0 0 (pos 0)
  row_S h = row_in (λ k. S k 0 0 (pos 0)) SD (take 42 rows) s_ops (drop 44 rows) op h

  pub row_B : op < 6 → row_of (44 + op) ≡ B (get_or b_ops op BEQ) 0 0 (pos 0)
  row_B h = row_in (λ k. B k 0 0 (pos 0)) BEQ (take 44 rows) b_ops (drop 50 rows) op h

  pub row_U : op < 2 → row_of (50 + op) ≡ U (get_or u_ops op LUI) 0 (pos 0)
  row_U h = row_in (λ k. U k 0 (pos 0)) LUI (take 50 rows) u_ops (drop 52 rows) op h

  pub row_J : op < 1 → row_of (52 + op) ≡ J (get_or j_ops op JAL) 0 (pos 0)
  row_J h = row_in (λ k. J k 0 (pos 0)) JAL (take 52 rows) j_ops (drop 53 rows) op h

-- ---- words: a base word and the operands in their fields

module _ (b op : ℕ) where
  pub word_R : op < 16 → b ≡ encode (row_of op) → (d a c : ℕ) → packed b d 0 a c 0 ≡ encode (R (get_or r_ops op ADD) d a c)
  word_R h q d a c = omega (arith, encode_R (get_or r_ops op ADD) d a c, q ∙ ap encode (row_R op h))

  pub word_F : op < 4 → b ≡ encode (row_of (16 + op)) → (d a c m : ℕ) → packed b d m a c 0 ≡ encode (F (get_or f_ops op FADD_D) d a c m)
  word_F h q d a c m = omega (arith, encode_F (get_or f_ops op FADD_D) d a c m, q ∙ ap encode (row_F op h))

  pub word_C : op < 5 → b ≡ encode (row_of (20 + op)) → (d a m : ℕ) → packed b d m a 0 0 ≡ encode (C (get_or c_ops op FSQRT_D) d a m)
  word_C h q d a m = omega (arith, encode_C (get_or c_ops op FSQRT_D) d a m, q ∙ ap encode (row_C op h))

  pub word_M : op < 2 → b ≡ encode (row_of (25 + op)) → (d a : ℕ) → packed b d 0 a 0 0 ≡ encode (M (get_or m_ops op FMV_X_D) d a)
  word_M h q d a = omega (arith, encode_M (get_or m_ops op FMV_X_D) d a, q ∙ ap encode (row_M op h))

  pub word_R4 : op < 4 → b ≡ encode (row_of (27 + op)) → (d a c e m : ℕ) → packed b d m a c (e * 4) ≡ encode (R4 (get_or r4_ops op FMADD_D) d a c e m)
  word_R4 h q d a c e m = omega (arith, encode_R4 (get_or r4_ops op FMADD_D) d a c e m, q ∙ ap encode (row_R4 op h))

  pub word_I : op < 8 → b ≡ encode (row_of (31 + op)) → (d a n : ℕ) (z : ℤ) → n ≡ twos 12 z → packed b d 0 a (n % 32) (n / 32) ≡ encode (I (get_or i_ops op ADDI) d a z)
  word_I h q d a n z p = rw p (omega (arith, encode_I (get_or i_ops op ADDI) d a z, q ∙ ap encode (row_I op h)))

  pub word_Shift : op < 3 → b ≡ encode (row_of (39 + op)) → (d a n : ℕ) (z : ℤ) → n ≡ twos 6 z → packed b d 0 a (n % 32) (n / 32) ≡ encode (Shift (get_or shift_ops op SLLI) d a z)
  word_Shift h q d a n z p = rw p (omega (arith, encode_Shift (get_or shift_ops op SLLI) d a z, q ∙ ap encode (row_Shift op h)))

  pub word_S : op < 2 → b ≡ encode (row_of (42 + op)) → (a c n : ℕ) (z : ℤ) → n ≡ twos 12 z → packed b (n % 32) 0 a c (n / 32) ≡ encode (S (get_or s_ops op SD) a c z)
  word_S h q a c n z p = rw p (omega (arith, encode_S (get_or s_ops op SD) a c z, q ∙ ap encode (row_S op h)))

  pub word_B : op < 6 → b ≡ encode (row_of (44 + op)) → (a c n : ℕ) (z : ℤ) → n ≡ twos 13 z → packed b (n / 2 % 16 * 2 + n / 2048 % 2) 0 a c (n / 4096 * 64 + n / 32 % 64) ≡ encode (B (get_or b_ops op BEQ) a c z)
  word_B h q a c n z p = rw p (omega (arith, encode_B (get_or b_ops op BEQ) a c z, q ∙ ap encode (row_B op h)))

  pub word_U : op < 2 → b ≡ encode (row_of (50 + op)) → (d n : ℕ) (z : ℤ) → n ≡ twos 20 z → packed b d (n % 8) (n / 8 % 32) (n / 256 % 32) (n / 8192) ≡ encode (U (get_or u_ops op LUI) d z)
  word_U h q d n z p = rw p (omega (arith, encode_U (get_or u_ops op LUI) d z, q ∙ ap encode (row_U op h)))

  pub word_J : op < 1 → b ≡ encode (row_of (52 + op)) → (d n : ℕ) (z : ℤ) → n ≡ twos 21 z → packed b d (n / 4096 % 8) (n / 32768 % 32) (n / 2 % 16 * 2 + n / 2048 % 2) (n / 1048576 * 64 + n / 32 % 64) ≡ encode (J (get_or j_ops op JAL) d z)
  word_J h q d n z p = rw p (omega (arith, encode_J (get_or j_ops op JAL) d z, q ∙ ap encode (row_J op h)))
