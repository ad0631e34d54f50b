-- The table finds every valid instruction, and so the decoder is the definition's. Assumes nothing.
use mathlib.Core.Path.{◌≡◌, refl, sym, ap, ◌∙◌}
use mathlib.Core.Option.{Option, some, none}
use Prim.Native.Nat.{ℕ, ◌+◌, ◌*◌, ◌/◌, ◌%◌, ◌<◌}
use native.Mathlib.Omega.{arith}
use Rattle.isa.specs.Immediate.{twos}
use Rattle.isa.specs.Instr.{Instr, R, F, C, M, R4, I, Shift, S, B, U, J, ADD, SUB, SLL, XOR, SRL, SRA, OR, AND, FSGNJ_D, FSGNJN_D, FSGNJX_D, FMIN_D, FMAX_D, FLE_D, FLT_D, FEQ_D, FADD_D, FSUB_D, FMUL_D, FDIV_D, FSQRT_D, FCVT_W_D, FCVT_L_D, FCVT_D_W, FCVT_D_L, FMV_X_D, FMV_D_X, FMADD_D, FMSUB_D, FNMSUB_D, FNMADD_D, ADDI, XORI, ORI, ANDI, JALR, LD, FLD, ADDIW, SLLI, SRLI, SRAI, SD, FSD, BEQ, BNE, BLT, BGE, BLTU, BGEU, LUI, AUIPC, JAL}
use Rattle.isa.specs.Encode.{Fields, fields, encode}
use Rattle.isa.specs.Decode.{cut, decode}
use Rattle.isa.proofs.Validity.{Valid}
use Rattle.isa.proofs.Laws.{cut_join, fit, up4, twos_small, i_back, u_back, b_back, j_back, shamt_back, encode_decode, encode_injective}
use Rattle.isa.proofs.Laws.{decode_encode}
use Rattle.refusal.specs.Answer.{accepted, refused}
use Rattle.encoder.specs.Answer.{encoded}
use Rattle.encoder.proofs.Answers.{accepted_valid, valid_accepted}
use Rattle.decoder.specs.Inner.Operation.{operation_of, candidate_of}
use Rattle.decoder.specs.Laws.{Laws}

-- bit 5 of funct7, the bit of a shift to the right that is 1 for srai
shift_bit : (k n : ℕ) → n < 64 → (k * 64 + n) / 32 / 32 % 2 ≡ k / 16 % 2
shift_bit k n h = let e : (k * 64 + n) / 32 / 32 ≡ k / 16 = omega arith in rw e

abbrev candidate : Fields → Instr
candidate G = candidate_of (operation_of G) G

-- the operation and the operands are read back
found : (i : Instr) → Valid i → candidate (fields i) ≡ i
unfolding fields
found (R ADD d a b) h = refl
found (R SUB d a b) h = refl
found (R SLL d a b) h = refl
found (R XOR d a b) h = refl
found (R SRL d a b) h = refl
found (R SRA d a b) h = refl
found (R OR d a b) h = refl
found (R AND d a b) h = refl
found (R FSGNJ_D d a b) h = refl
found (R FSGNJN_D d a b) h = refl
found (R FSGNJX_D d a b) h = refl
found (R FMIN_D d a b) h = refl
found (R FMAX_D d a b) h = refl
found (R FLE_D d a b) h = refl
found (R FLT_D d a b) h = refl
found (R FEQ_D d a b) h = refl
found (F FADD_D d a b m) h = refl
found (F FSUB_D d a b m) h = refl
found (F FMUL_D d a b m) h = refl
found (F FDIV_D d a b m) h = refl
found (C FSQRT_D d a m) h = refl
found (C FCVT_W_D d a m) h = refl
found (C FCVT_L_D d a m) h = refl
found (C FCVT_D_W d a m) h = refl
found (C FCVT_D_L d a m) h = refl
found (M FMV_X_D d a) h = refl
found (M FMV_D_X d a) h = refl
found (R4 FMADD_D d a b c m) h = rw (up4 c)
found (R4 FMSUB_D d a b c m) h = rw (up4 c)
found (R4 FNMSUB_D d a b c m) h = rw (up4 c)
found (R4 FNMADD_D d a b c m) h = rw (up4 c)
found (I ADDI d a z) h = rw (i_back z h.1.1.0)
found (I XORI d a z) h = rw (i_back z h.1.1.0)
found (I ORI d a z) h = rw (i_back z h.1.1.0)
found (I ANDI d a z) h = rw (i_back z h.1.1.0)
found (I JALR d a z) h = rw (i_back z h.1.1.0)
found (I LD d a z) h = rw (i_back z h.1.1.0)
found (I FLD d a z) h = rw (i_back z h.1.1.0)
found (I ADDIW d a z) h = rw (i_back z h.1.1.0)
found (Shift SLLI d a z) h = rw (shamt_back 0 z h.1.1.0)
found (Shift SRLI d a z) h = rw (shift_bit 0 (twos 6 z) (twos_small 6 z), shamt_back 0 z h.1.1.0)
found (Shift SRAI d a z) h = rw (shift_bit 16 (twos 6 z) (twos_small 6 z), shamt_back 16 z h.1.1.0)
found (S SD a b z) h = rw (i_back z h.1.1.0)
found (S FSD a b z) h = rw (i_back z h.1.1.0)
found (B BEQ a b z) h = rw (b_back BEQ a b z h.1.1.0)
found (B BNE a b z) h = rw (b_back BNE a b z h.1.1.0)
found (B BLT a b z) h = rw (b_back BLT a b z h.1.1.0)
found (B BGE a b z) h = rw (b_back BGE a b z h.1.1.0)
found (B BLTU a b z) h = rw (b_back BLTU a b z h.1.1.0)
found (B BGEU a b z) h = rw (b_back BGEU a b z h.1.1.0)
found (U LUI d z) h = rw (u_back z h.1.0)
found (U AUIPC d z) h = rw (u_back z h.1.0)
found (J JAL d z) h = rw (j_back d z h.1.0)

-- what a word decodes to is what the table says of it
pub decode_found : (w : ℕ) (i : Instr) → decode w ≡ some i → candidate (cut w) ≡ i
unfolding encode
decode_found w i e =
    let q = encode_decode w i e in
    let p : cut w ≡ fields i = ap cut (sym q.1) ∙ cut_join (fields i) (fit i q.0) in
    ap candidate p ∙ found i q.0

-- ---- what the decoder answers, by the encoder's answer to the candidate i

module _ (w n : ℕ) (i : Instr) (chosen : i ≡ candidate_of n (cut w)) (by_table : n ≡ operation_of (cut w)) where
  is : i ≡ candidate (cut w)
  is = chosen ∙ ap (λ (k : ℕ). candidate_of k (cut w)) by_table

  pub same_word : (v : ℕ) → accepted v ≡ encoded i → v ≡ w → some i ≡ decode w
  same_word v e same = let q = accepted_valid i v (sym e) in rw (← same) (sym (ap decode q.1 ∙ decode_encode i q.0))

  -- what decodes would be the candidate, and the encoder would give its word
  no_word : (accepted w ≡ encoded i → ⊥) → none ≡ decode w
  no_word n = by (decode w) refl
    where
      by : (o : Option Instr) → decode w ≡ o → none ≡ o
      by none e = refl
      by (some j) e =
          let q = encode_decode w j e in
          let p : i ≡ j = is ∙ decode_found w j e in
          absurd (n (rw p (ap accepted (sym q.1) ∙ sym (valid_accepted j q.0))))

  pub another_word : (v : ℕ) → accepted v ≡ encoded i → (v ≡ w → ⊥) → none ≡ decode w
  another_word v e other = no_word (λ f. let p : v ≡ w = cc in other p)

  pub no_word_at_all : (k p : ℕ) → refused k p ≡ encoded i → none ≡ decode w
  no_word_at_all k p e = no_word (λ f. let z : ◌≡◌ {A = ℕ} 0 1 = cc in absurd (omega arith))

-- ---- document 02's laws

pub laws : Laws
laws =
    record {
      reads_back = λ i w e. let q = accepted_valid i w e in ap decode q.1 ∙ decode_encode i q.0;
      writes_again = λ w i e. let q = encode_decode w i e in valid_accepted i q.0 ∙ ap accepted q.1;
      injective = λ i j w e f.
          let p = accepted_valid i w e in
          let q = accepted_valid j w f in
          encode_injective i j p.0 q.0 (sym p.1 ∙ q.1);
    }
