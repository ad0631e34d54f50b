-- Jumps' words written one by one. Assumes nothing.
use mathlib.Core.Path.{◌≡◌, ap, ◌∙◌}
use mathlib.Core.Bool.{true}
use mathlib.Core.List.{List, [], ◌∷◌}
use Prim.Native.Nat.{ℕ, suc, ◌+◌, ◌-◌, ◌≤◌, ◌<◌}
use native.Mathlib.Omega.{arith}
use borrow.Author.Tests.{le-leb}
use lib.Dec.{leb}
use lib.IntN.{sub_ℕ}
use lib.ListN.{length, get_or}
use Rattle.isa.specs.Instr.{valid}
use Rattle.isa.specs.Encode.{encode}
use Rattle.isa.proofs.Validity.{Valid_valid}
use Rattle.assembler.specs.Bytes.{written, fitted, room}
use Rattle.assembler.specs.Jump.{kind_of, jump_instr}
use Rattle.assembler.specs.Label.{place_of}
use Rattle.assembler.specs.Memory.{Jump, jump_at, jumps_of}
use Rattle.finish.specs.Finish.{way, jump_word, patched}
use Rattle.finish.proofs.Wrong.{Right}

module _ (labels b m : List ℕ) (i n : ℕ) where
  pub patched_step : i < n → patched labels b (jumps_of m i (n - i)) ≡ patched labels (written b (jump_at m i).word (jump_word labels (jump_at m i) ∷ [])) (jumps_of m (i + 1) (n - (i + 1)))
  unfolding patched jumps_of
  patched_step h =
      let d : n - i ≡ suc (n - (i + 1)) = omega arith in
      rw d

  pub patched_end : n ≤ i → patched labels b (jumps_of m i (n - i)) ≡ b
  unfolding patched jumps_of
  patched_end h =
      let d : n - i ≡ 0 = omega arith in
      rw d

-- one jump's word, from what the functions answer
module _ (labels b : List ℕ) (len : ℕ) (j : Jump) (r : Right labels len j) (h : len ≤ room (length b)) where
  pub one_word : (a w : ℕ) (b' : List ℕ) → a ≡ place_of (get_or labels j.label 0)
      → (valid (jump_instr (kind_of j.kind) j.reg (sub_ℕ a j.word)) ≡ true → w ≡ encode (jump_instr (kind_of j.kind) j.reg (sub_ℕ a j.word)))
      → b' ≡ fitted b j.word (w ∷ []) → b' ≡ written b j.word (jump_word labels j ∷ [])
  one_word a w b' f g q =
      let v : valid (jump_instr (kind_of j.kind) j.reg (sub_ℕ a j.word)) ≡ true = rw f (Valid_valid (jump_instr (kind_of j.kind) j.reg (way labels j)) r.valid) in
      let w' : w ≡ jump_word labels j = g v ∙ ap (λ (x : ℕ). encode (jump_instr (kind_of j.kind) j.reg (sub_ℕ x j.word))) f in
      let m : j.word + 4 ≤ room (length b) = omega (arith, r.good.inside) in
      let k : leb (j.word + 4) (room (length b)) ≡ true = le-leb _ _ m in
      q ∙ rw (k, w')
