-- What `li` and the changes of sp do, instruction by instruction.
use mathlib.Core.Path.{◌≡◌, refl, ◌∙◌}
use mathlib.Core.Logic.{◌≢◌}
use mathlib.Core.Bool.{Bool, true, false, not, ◌||◌, cond}
use mathlib.Core.List.{List, [], ◌∷◌, ◌++◌}
use Prim.Native.Nat.{ℕ, zero, suc, ◌+◌, ◌-◌, ◌^◌, ◌<◌}
use native.Mathlib.Omega.{arith}
use borrow.Author.Tests.{ltb-true, eq-eqb, ne_eqb}
use lib.Dec.{T, eqb, ltb}
use lib.IntN.{ℤ, pos, neg_ℤ}
use lib.Signed.{mag}
use Rattle.isa.specs.Immediate.{twos, hi, lo}
use Rattle.isa.specs.Instr.{Instr, R, I, U, ADD, SUB, ADDI, LUI}
use Rattle.isa.proofs.HiLo.{lo_fits, hi_fits}
use Rattle.machine.specs.Word.{w64, upd}
use Rattle.machine.specs.Floats.{Floats}
use Rattle.machine.specs.State.{State, setx}
use Rattle.machine.specs.Effect.{upper, effect, apply}
use Rattle.machine.proofs.Exec.{execs, Fit}
use Rattle.machine.proofs.Effects.{setx_same, getx_same, twos_small}
use Rattle.machine.proofs.Straight.{execs_append, fit_join, execs_x}
use Rattle.machine.proofs.Stores.{Landing}
use Rattle.accesses.specs.Code.{top, li_code, sub_stack_code}
use Rattle.accesses.proofs.Parts.{Plain, plain_op, parts}
use Rattle.frame_code.proofs.Land.{Nowhere, landing_join}

-- Instructions that write registers of W only.
pub record Quiet (Q : Floats) (W : ℕ → Bool) (is : List Instr) (u : State) : Type 0 where
  pub fit : Fit Q is u
  pub lands : Landing Nowhere Q is u
  pub x : (r : ℕ) → T (not (W r)) → (execs Q is u).x r ≡ u.x r
  pub f : (execs Q is u).f ≡ u.f
  pub mem : (execs Q is u).mem ≡ u.mem

module _ {Q : Floats} {W : ℕ → Bool} where
  pub quiet_join : (is js : List Instr) (u : State) → Quiet Q W is u → Quiet Q W js (execs Q is u) → Quiet Q W (is ++ js) u
  quiet_join is js u p q =
      record {
        fit = fit_join Q is js u p.fit q.fit;
        lands = landing_join Nowhere Q is js u p.lands q.lands;
        x = λ r h. rw (execs_append Q is js u) (q.x r h ∙ p.x r h);
        f = rw (execs_append Q is js u) (q.f ∙ p.f);
        mem = rw (execs_append Q is js u) (q.mem ∙ p.mem);
      }

  pub quiet_wider : {W' : ℕ → Bool} {is : List Instr} {u : State} → ((r : ℕ) → T (not (W' r)) → T (not (W r))) → Quiet Q W is u → Quiet Q W' is u
  quiet_wider h q = record { fit = q.fit; lands = q.lands; x = λ r k. q.x r (h r k); f = q.f; mem = q.mem }

-- ---- li

module _ (Q : Floats) where
  -- li, to any register but x0
  module _ (d : ℕ) (z : ℤ) (u : State) (h : d < 32) (n : d ≢ 0) (t : Plain z) where
    near : ltb (mag z) 2048 ≡ true → Quiet Q (λ r. eqb r d) (I ADDI d 0 z ∷ []) u × ((execs Q (I ADDI d 0 z ∷ []) u).x d ≡ twos 64 z)
    unfolding effect apply
    near e = (
      record {
        fit = omega (arith, ltb-true (mag z) 2048 e);
        lands = omega arith;
        x = λ r k. execs_x Q (λ r. eqb r d) (I ADDI d 0 z ∷ []) u r (rw (ne_eqb d 0 n, eq-eqb d d refl) tt) k;
        f = refl;
        mem = refl;
      },
      setx_same u.x d _ n ∙ omega (arith, twos_small z),
    )

    abbrev far_code : List Instr
    far_code = U LUI d (pos (hi (twos 32 z))) ∷ I ADDI d d (lo (twos 32 z)) ∷ []

    far : Quiet Q (λ r. eqb r d) far_code u × ((execs Q far_code u).x d ≡ twos 64 z)
    unfolding effect apply
    far = (
      record {
        fit = omega (arith, lo_fits (twos 32 z), hi_fits (twos 32 z));
        lands = omega arith;
        x = λ r k. execs_x Q (λ r. eqb r d) far_code u r (rw (ne_eqb d 0 n, eq-eqb d d refl) tt) k;
        f = refl;
        mem = refl;
      },
      setx_same _ d _ n ∙ rw (getx_same u.x d (upper (pos (hi (twos 32 z)))), ne_eqb d 0 n) (parts z t),
    )

    pub li : Quiet Q (λ r. eqb r d) (li_code d z) u × ((execs Q (li_code d z) u).x d ≡ twos 64 z)
    unfolding li_code
    li = rw (plain_op z t) (by (ltb (mag z) 2048) refl)
      where
        by : (b : Bool) → ltb (mag z) 2048 ≡ b → Quiet Q (λ r. eqb r d) (cond b (I ADDI d 0 z ∷ []) far_code) u × ((execs Q (cond b (I ADDI d 0 z ∷ []) far_code) u).x d ≡ twos 64 z)
        by true e = near e
        by false e = far

-- ---- sp

-- how much is taken off
pub minus_n : (n : ℕ) → n < 2 ^ 64 → twos 64 (neg_ℤ (pos n)) ≡ w64 (2 ^ 64 - n)
minus_n zero h = refl
minus_n (suc n) h = omega arith

minus_plain : (n : ℕ) → n < 2 ^ 31 → Plain (neg_ℤ (pos n))
minus_plain zero h = omega arith
minus_plain (suc n) h = omega arith

minus_fits : (n : ℕ) → n < 2048 → mag (neg_ℤ (pos n)) < 2048
minus_fits zero h = omega arith
minus_fits (suc n) h = omega arith

-- sp and t0; and s5
abbrev pub stack_regs : ℕ → Bool
stack_regs r = eqb r 2 || eqb r 5

abbrev pub frame_regs : ℕ → Bool
frame_regs r = eqb r 2 || (eqb r 5 || eqb r 21)

-- t0 is one of them
five_in : (r : ℕ) → T (not (stack_regs r)) → T (not (eqb r 5))
five_in r = by (eqb r 2) (eqb r 5)
  where
    by : (a b : Bool) → T (not (a || b)) → T (not b)
    by true b h = absurd h
    by false b h = h

stack_in : (r : ℕ) → T (not (frame_regs r)) → T (not (stack_regs r))
stack_in r = by (eqb r 2) (eqb r 5) (eqb r 21)
  where
    by : (a b c : Bool) → T (not (a || (b || c))) → T (not (a || b))
    by true b c h = h
    by false true c h = h
    by false false c h = tt

module _ (Q : Floats) (n : ℕ) (h : n < top) (u : State) where
  abbrev lowered : ℕ
  lowered = w64 (u.x 2 + (2 ^ 64 - n))

  -- below 2048 in one word
  down : n < 2048 → Quiet Q stack_regs (I ADDI 2 2 (neg_ℤ (pos n)) ∷ []) u × ((execs Q (I ADDI 2 2 (neg_ℤ (pos n)) ∷ []) u).x 2 ≡ lowered)
  unfolding effect apply setx upd
  down l = (
    record {
      fit = omega (arith, minus_fits n l);
      lands = omega arith;
      x = λ r k. execs_x Q stack_regs (I ADDI 2 2 (neg_ℤ (pos n)) ∷ []) u r tt k;
      f = refl;
      mem = refl;
    },
    omega (arith, minus_n n (omega arith)),
  )

  -- by t0, added or taken off
  added : (v : State) → v.x 2 ≡ u.x 2 → v.x 5 ≡ twos 64 (neg_ℤ (pos n)) → Quiet Q stack_regs (R ADD 2 2 5 ∷ []) v × ((execs Q (R ADD 2 2 5 ∷ []) v).x 2 ≡ lowered)
  unfolding effect apply setx upd
  added v p q = (
    record {
      fit = omega arith;
      lands = omega arith;
      x = λ r k. execs_x Q stack_regs (R ADD 2 2 5 ∷ []) v r tt k;
      f = refl;
      mem = refl;
    },
    omega (arith, p, q, minus_n n (omega arith)),
  )

  taken_off : (v : State) → v.x 2 ≡ u.x 2 → v.x 5 ≡ twos 64 (pos n) → Quiet Q stack_regs (R SUB 2 2 5 ∷ []) v × ((execs Q (R SUB 2 2 5 ∷ []) v).x 2 ≡ lowered)
  unfolding effect apply setx upd
  taken_off v p q = (
    record {
      fit = omega arith;
      lands = omega arith;
      x = λ r k. execs_x Q stack_regs (R SUB 2 2 5 ∷ []) v r tt k;
      f = refl;
      mem = refl;
    },
    omega (arith, p, q),
  )

  -- li t0, then the rest
  module _ (z : ℤ) (i : Instr) (t : Plain z) (g : (v : State) → v.x 2 ≡ u.x 2 → v.x 5 ≡ twos 64 z → Quiet Q stack_regs (i ∷ []) v × ((execs Q (i ∷ []) v).x 2 ≡ lowered)) where
    by_t0 : Quiet Q stack_regs (li_code 5 z ++ (i ∷ [])) u × ((execs Q (li_code 5 z ++ (i ∷ [])) u).x 2 ≡ lowered)
    by_t0 =
        let l = li Q 5 z u (omega arith) (λ e. omega arith) t in
        let k = g (execs Q (li_code 5 z) u) (l.0.x 2 tt) l.1 in
        (quiet_join (li_code 5 z) (i ∷ []) u (quiet_wider five_in l.0) k.0, rw (execs_append Q (li_code 5 z) (i ∷ []) u) k.1)

  pub sub_stack : Quiet Q stack_regs (sub_stack_code n) u × ((execs Q (sub_stack_code n) u).x 2 ≡ lowered)
  unfolding sub_stack_code
  sub_stack = by (ltb n 2048) refl
    where
      by : (b : Bool) → ltb n 2048 ≡ b → Quiet Q stack_regs (cond b (I ADDI 2 2 (neg_ℤ (pos n)) ∷ []) (li_code 5 (neg_ℤ (pos n)) ++ (R ADD 2 2 5 ∷ []))) u × ((execs Q (cond b (I ADDI 2 2 (neg_ℤ (pos n)) ∷ []) (li_code 5 (neg_ℤ (pos n)) ++ (R ADD 2 2 5 ∷ []))) u).x 2 ≡ lowered)
      by true e = down (ltb-true n 2048 e)
      by false e = by_t0 (neg_ℤ (pos n)) (R ADD 2 2 5) (minus_plain n (omega arith)) added

  pub lower : Quiet Q stack_regs (cond (ltb n 2048) (I ADDI 2 2 (neg_ℤ (pos n)) ∷ []) (li_code 5 (pos n) ++ (R SUB 2 2 5 ∷ []))) u × ((execs Q (cond (ltb n 2048) (I ADDI 2 2 (neg_ℤ (pos n)) ∷ []) (li_code 5 (pos n) ++ (R SUB 2 2 5 ∷ []))) u).x 2 ≡ lowered)
  lower = by (ltb n 2048) refl
    where
      by : (b : Bool) → ltb n 2048 ≡ b → Quiet Q stack_regs (cond b (I ADDI 2 2 (neg_ℤ (pos n)) ∷ []) (li_code 5 (pos n) ++ (R SUB 2 2 5 ∷ []))) u × ((execs Q (cond b (I ADDI 2 2 (neg_ℤ (pos n)) ∷ []) (li_code 5 (pos n) ++ (R SUB 2 2 5 ∷ []))) u).x 2 ≡ lowered)
      by true e = down (ltb-true n 2048 e)
      by false e = by_t0 (pos n) (R SUB 2 2 5) (omega arith) taken_off
