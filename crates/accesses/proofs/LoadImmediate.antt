-- What li does. Assumes nothing.
use mathlib.Core.Path.{◌≡◌, refl}
use mathlib.Core.Bool.{Bool, true, false, cond}
use mathlib.Core.List.{List, [], ◌∷◌}
use Prim.Native.Nat.{ℕ, ◌+◌, ◌^◌, ◌<◌}
use native.Mathlib.Omega.{arith}
use borrow.Author.Tests.{ltb-true, eqb-false}
use lib.Dec.{eqb, ltb, ltb→lt}
use lib.IntN.{ℤ, pos}
use lib.Signed.{mag}
use Rattle.isa.specs.Immediate.{twos, hi, lo}
use Rattle.isa.specs.Instr.{Instr, IOp, I, U, ADDI, ADDIW, LUI}
use Rattle.isa.proofs.HiLo.{lo_fits, hi_fits}
use Rattle.machine.specs.Word.{w64, sext}
use Rattle.machine.specs.State.{setx}
use Rattle.machine.specs.Effect.{upper, effect, apply}
use Rattle.machine.proofs.Effects.{setx_zero, setx_same, setx_twice, twos_small}
use Rattle.machine.proofs.Placed.{Valids}
use Rattle.accesses.specs.Code.{near, low_op, li_code}
use Rattle.accesses.specs.Fault.{li_fault}
use Rattle.accesses.specs.Stands.{Stands, Goes, behind, Leaves}
use Rattle.accesses.proofs.Parts.{parts, top_parts, low_cases}
use Rattle.accesses.proofs.Then.{leads}
use Rattle.base.proofs.Bools.{passed}

-- a register written twice, the second time from the first; x0 stays 0
pub setx_then : (g : ℕ → ℕ) (x : ℕ → ℕ) (d u v : ℕ) → g u ≡ v → setx (setx x d u) d (g (cond (eqb d 0) 0 (setx x d u d))) ≡ setx x d v
setx_then g x d u v e = by (eqb d 0) refl
  where
    by : (b : Bool) → eqb d 0 ≡ b → setx (setx x d u) d (g (cond b 0 (setx x d u d))) ≡ setx x d v
    by true q = rw (setx_zero x d u q, setx_zero x d (g 0) q, setx_zero x d v q)
    by false q = rw (setx_twice x d u (g (setx x d u d)), setx_same x d u (eqb-false d 0 q), e)

pub eight : (p : ℕ) → w64 (w64 (p + 4) + 4) ≡ w64 (p + 8)
eight p = omega arith

pub li_accepted : (d : ℕ) → li_fault d ≡ 0 → d < 32
li_accepted d e = ltb→lt d 32 (passed (ltb d 32) _ _ e).0

module _ (d : ℕ) (z : ℤ) (hd : d < 32) where
  -- in one word, or in two
  abbrev form : Bool → IOp → List Instr
  form b k = cond b (I ADDI d 0 z ∷ []) (U LUI d (pos (hi (twos 32 z))) ∷ I k d d (lo (twos 32 z)) ∷ [])

  pub li_valid : Valids (li_code d z)
  unfolding li_code
  li_valid = by (ltb (mag z) near) refl
    where
      by : (b : Bool) → ltb (mag z) near ≡ b → Valids (form b (low_op z))
      by true e = let h : mag z < near = ltb-true _ _ e in omega arith
      by false e = ((hd, (hi_fits (twos 32 z), tt)), ((hd, (hd, (lo_fits (twos 32 z), tt))), tt))

  module _ (h : mag z < 2 ^ 31) where
    -- The register holds the number, sign-extended to 64 bits; nothing else changes.
    pub li_runs : Leaves (li_code d z) (λ s. setx s.x d (twos 64 z)) (λ s. s.f) (λ s. s.mem)
    unfolding li_code effect apply
    li_runs Q s = by (ltb (mag z) near) li_valid
      where
        To : Bool → IOp → Type 0
        To b k = Stands (form b k) s → Goes Q (form b k) s (behind (form b k) s (setx s.x d (twos 64 z)) s.f s.mem)

        by : (b : Bool) → Valids (form b (low_op z)) → To b (low_op z)
        by true v = let e : w64 (0 + twos 64 z) ≡ twos 64 z = omega (arith, twos_small z) in leads Q (form true ADDI) s _ v tt tt (rw e)
        by false v =
            low_cases (To false) z h
            (λ p. leads Q (form false ADDI) s _ v tt tt (rw (eight s.pc, setx_then (λ u. w64 (u + twos 64 (lo (twos 32 z)))) s.x d (upper (pos (hi (twos 32 z)))) (twos 64 z) (parts z p))))
            (λ n e t. leads Q (form false ADDIW) s _ v tt tt (rw (eight s.pc, setx_then (λ u. sext 32 (u + twos 64 (lo (twos 32 z)))) s.x d (upper (pos (hi (twos 32 z)))) (twos 64 z) (rw e (top_parts n t (rw e at h))))))
