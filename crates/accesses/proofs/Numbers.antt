-- Signed numbers that are handed on: a local is held as its bits and read back. Assumes nothing.
use mathlib.Core.Path.{◌≡◌, ap, ◌∙◌}
use Prim.Native.Nat.{ℕ, zero, suc, ◌<◌, ◌^◌}
use native.Mathlib.Omega.{arith}
use lib.IntN.{ℤ, pos, neg_ℤ, ◌-ℤ◌, +ℤ_idl}
use lib.Signed.{mag}
use mir.Syntax.{w32}
use mir.Val.{SFits, to_z, of_z}
use Rattle.isa.specs.Instr.{Instr}
use Rattle.encoder.specs.Answer.{Encoded, word_answer, encoded}
use Rattle.encoder.proofs.ReadBack.{sfits}
pub use Rattle.encoder.proofs.ReadBack.{back, back_hi, back_lo, back_small}
use Rattle.accesses.specs.Plans.{answer_of}
use Rattle.accesses.proofs.Collect.{answered}

-- the encoder's answer for an instruction with an immediate that is read back
pub answered_at : (e : Encoded) (f : ℤ → Instr) {z y : ℤ} → word_answer e ≡ encoded (f z) → z ≡ y → e ≡ answer_of (f y)
answered_at e f {y = y} t q = answered e (f y) (t ∙ ap (λ (z : ℤ). encoded (f z)) q)

-- ---- 0 - n

neg_pos : (n : ℕ) → pos 0 -ℤ pos n ≡ neg_ℤ (pos n)
neg_pos n = +ℤ_idl (neg_ℤ (pos n))

pub negated : (n : ℕ) → n < 2 ^ 31 → pos 0 -ℤ to_z w32 n ≡ neg_ℤ (pos n)
negated n h = ap (λ (z : ℤ). pos 0 -ℤ z) (back_small n h) ∙ neg_pos n

pub mag_neg : (n k : ℕ) → n < k → mag (neg_ℤ (pos n)) < k
mag_neg zero k h = h
mag_neg (suc n) k h = omega arith

pub sfits_neg : (n : ℕ) → n < 2 ^ 31 → SFits w32 (neg_ℤ (pos n))
sfits_neg n h = sfits (neg_ℤ (pos n)) (mag_neg n (2 ^ 31) h)

pub back_neg : (z : ℤ) (n : ℕ) → z ≡ neg_ℤ (pos n) → n < 2 ^ 31 → to_z w32 (of_z w32 z) ≡ neg_ℤ (pos n)
back_neg z n e h = back z (neg_ℤ (pos n)) e (mag_neg n (2 ^ 31) h)
