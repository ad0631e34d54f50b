-- Code in memory: its parts, what leaves it standing, and how it comes from a buffer's bytes. Assumes nothing.
use mathlib.Core.Path.{◌≡◌, ◌∙◌}
use mathlib.Core.List.{List, [], ◌∷◌, ◌++◌}
use Prim.Native.Nat.{ℕ, zero, suc, ◌+◌, ◌*◌, ◌^◌, ◌≤◌, ◌<◌}
use native.Mathlib.Nat.{add_assoc, add-zero}
use native.Mathlib.Omega.{arith}
use lib.ListN.{length, get_or}
use Rattle.isa.specs.Instr.{Instr}
use Rattle.isa.proofs.Validity.{Valid}
use Rattle.machine.specs.Word.{w64, load4, load8}
use Rattle.machine.specs.Step.{CodeAt, Loaded}
use Rattle.machine.proofs.Exec.{bytes_of}
use Rattle.machine.proofs.Memory.{wrap_l, dist_ahead, bytes4, Agree, load4_local, load8_two, load4_wrap}

-- ---- parts

further : (a n : ℕ) → w64 (w64 (a + 4) + 4 * n) ≡ w64 (a + 4 * suc n)
further a n = omega arith

module _ (m : ℕ → ℕ) where
  pub code_left : (a : ℕ) (us vs : List ℕ) → CodeAt m a (us ++ vs) → CodeAt m a us
  code_left a [] vs c = tt
  code_left a (u ∷ us) vs c = (c.0, code_left (w64 (a + 4)) us vs c.1)

  pub code_right : (a : ℕ) (us vs : List ℕ) → a < 2 ^ 64 → CodeAt m a (us ++ vs) → CodeAt m (w64 (a + 4 * length us)) vs
  code_right a [] vs h c = let e : w64 (a + 0) ≡ a = omega arith in rw e c
  code_right a (u ∷ us) vs h c = rw (← (further a (length us))) (code_right (w64 (a + 4)) us vs (omega arith) c.1)

  -- one word
  pub code_word : (a : ℕ) (ws : List ℕ) (k : ℕ) → CodeAt m a ws → k < length ws → load4 m (w64 (a + 4 * k)) ≡ get_or ws k 0
  code_word a [] k c h = absurd (omega arith)
  code_word a (w ∷ ws) zero c h = rw (load4_wrap m (a + 0), add-zero a) c.0
  code_word a (w ∷ ws) (suc k) c h = rw (← (further a k)) (code_word (w64 (a + 4)) ws k c.1 (omega arith))

  -- two words read as eight bytes: a constant
  pub code_eight : (a u v : ℕ) (ws : List ℕ) → CodeAt m a (u ∷ v ∷ ws) → load8 m a ≡ u + v * 2 ^ 32
  code_eight a u v ws c = rw (load8_two m a, c.0, c.1.0)

-- ---- code stands in every memory that has its bytes

pub code_kept : (m m' : ℕ → ℕ) (a : ℕ) (ws : List ℕ) → 4 * length ws ≤ 2 ^ 64 → Agree m' m a (4 * length ws) → CodeAt m a ws → CodeAt m' a ws
code_kept m m' a [] l h c = tt
code_kept m m' a (w ∷ ws) l h c = (
  load4_local m' m a (λ x b d. h x b (omega arith)) ∙ c.0,
  code_kept m m' (w64 (a + 4)) ws (omega arith) (λ x b d. h x b (omega (arith, dist_ahead a 4 x (omega arith)))) c.1,
)

-- ---- from bytes to code

-- every number is a 32-bit word
abbrev pub Small : List ℕ → Type 0
Small [] = Unit {0}
Small (w ∷ ws) = (w < 2 ^ 32) × Small ws

pub code_of_bytes : (m : ℕ → ℕ) (a : ℕ) (ws : List ℕ) → Small ws → Loaded m a (bytes_of ws) → CodeAt m (w64 a) ws
unfolding bytes_of load4
code_of_bytes m a [] s h = tt
code_of_bytes m a (w ∷ ws) s h = (
  rw (wrap_l a 0, wrap_l a 1, wrap_l a 2, wrap_l a 3, h 0 (omega arith), h 1 (omega arith), h 2 (omega arith), h 3 (omega arith)) (bytes4 w s.0),
  rw (wrap_l a 4) (code_of_bytes m (a + 4) ws s.1 (λ k l. rw (add_assoc a 4 k, four k) (h (suc (suc (suc (suc k)))) (omega arith)))),
)
  where
    four : (k : ℕ) → 4 + k ≡ suc (suc (suc (suc k)))
    four k = omega arith

-- valid instructions
abbrev pub Valids : List Instr → Type 0
Valids [] = Unit {0}
Valids (i ∷ is) = Valid i × Valids is
