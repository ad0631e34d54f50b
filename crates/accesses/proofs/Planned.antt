-- An access's and a size's plan, by the test that chose it. Assumes nothing.
use mathlib.Core.Path.{◌≡◌, ap, ◌∙◌}
use mathlib.Core.List.{List, [], ◌∷◌}
use Prim.Native.Nat.{ℕ, ◌+◌, ◌≤◌, ◌<◌}
use native.Mathlib.Omega.{arith}
use borrow.Author.Tests.{lt-ltb, le-ltb}
use lib.IntN.{ℤ, pos, neg_ℤ}
use mir.Syntax.{w32}
use mir.Val.{to_z}
use Rattle.isa.specs.Instr.{Instr, R, I, ADD, SUB, ADDI}
use Rattle.encoder.specs.Answer.{Encoded, word_answer, encoded}
use Rattle.assembler.specs.Plan.{pushed}
use Rattle.assembler.specs.declared.Plan.{Plan}
use Rattle.accesses.specs.Code.{near, near_pair, li_code, point_code, access_code, allocate_stack_code}
use Rattle.accesses.specs.Plans.{answer_of, pushes_from, pushes, plan_of}
use Rattle.accesses.proofs.Collect.{Answers, answered, collected, pushed_behind, pushed_last}
use Rattle.accesses.proofs.Stack.{sized}
use Rattle.accesses.proofs.Numbers.{back_small}

-- an access by the instructions `is`, from a base and an offset
module _ (limit : ℕ) (is : ℕ → ℕ → List Instr) (b n : ℕ) (es : List Encoded) where
  direct : n < limit → Answers es (is b n) → pushes es ≡ plan_of (access_code limit is b n)
  unfolding access_code
  direct h a = rw (lt-ltb n limit h) (collected es (is b n) a)

  through : limit ≤ n → Answers es (is 5 0) → pushes_from (plan_of (point_code b n)) es ≡ plan_of (access_code limit is b n)
  unfolding access_code
  through h a = rw (le-ltb n limit h) (pushed_behind (point_code b n) (is 5 0) es a)

-- of one cell
module _ (i : ℕ → ℤ → Instr) (b n : ℕ) (e : Encoded) where
  pub one_direct : n < near → e ≡ answer_of (i b (to_z w32 n)) → pushes (e ∷ []) ≡ plan_of (access_code near (λ b n. i b (pos n) ∷ []) b n)
  one_direct h p = direct near _ b n (e ∷ []) h (p ∙ ap (λ (z : ℤ). answer_of (i b z)) (back_small n (omega arith)), tt)

  pub one_through : near ≤ n → e ≡ answer_of (i 5 (pos 0)) → pushed (plan_of (point_code b n)) e ≡ plan_of (access_code near (λ b n. i b (pos n) ∷ []) b n)
  one_through h p = through near _ b n (e ∷ []) h (p, tt)

-- of two cells, with the registers r and r + 1
module _ (i : ℕ → ℕ → ℤ → Instr) (r b n : ℕ) (d e : Encoded) where
  pub pair_direct : n < near_pair → d ≡ answer_of (i r b (to_z w32 n)) → e ≡ answer_of (i (r + 1) b (to_z w32 (n + 8))) → pushes (d ∷ e ∷ []) ≡ plan_of (access_code near_pair (λ b n. i r b (pos n) ∷ i (r + 1) b (pos (n + 8)) ∷ []) b n)
  pair_direct h p q =
      let x : d ≡ answer_of (i r b (pos n)) = p ∙ ap (λ (z : ℤ). answer_of (i r b z)) (back_small n (omega arith)) in
      let y : e ≡ answer_of (i (r + 1) b (pos (n + 8))) = q ∙ ap (λ (z : ℤ). answer_of (i (r + 1) b z)) (back_small (n + 8) (omega arith)) in
      direct near_pair _ b n (d ∷ e ∷ []) h (x, (y, tt))

  pub pair_through : near_pair ≤ n → d ≡ answer_of (i r 5 (pos 0)) → e ≡ answer_of (i (r + 1) 5 (pos 8)) → pushed (pushed (plan_of (point_code b n)) d) e ≡ plan_of (access_code near_pair (λ b n. i r b (pos n) ∷ i (r + 1) b (pos (n + 8)) ∷ []) b n)
  pair_through h p q = through near_pair _ b n (d ∷ e ∷ []) h (p, (q, tt))

-- a stack size
module _ (n : ℕ) (i : Instr) (z : ℤ) (j : Instr) (e : Encoded) where
  pub size_direct : n < near → e ≡ answer_of i → pushes (e ∷ []) ≡ plan_of (sized n i z j)
  size_direct h p = rw (lt-ltb n near h) (collected (e ∷ []) (i ∷ []) (p, tt))

  pub size_through : near ≤ n → word_answer e ≡ encoded j → pushed (plan_of (li_code 5 z)) e ≡ plan_of (sized n i z j)
  size_through h p = rw (le-ltb n near h) (pushed_last (li_code 5 z) j (answered e j p))

-- s5 is then sp
pub then_base : (n : ℕ) {p : Plan} (e : Encoded) → p ≡ plan_of (sized n (I ADDI 2 2 (neg_ℤ (pos n))) (pos n) (R SUB 2 2 5)) → word_answer e ≡ encoded (R ADD 21 2 0) → pushed p e ≡ plan_of (allocate_stack_code n)
unfolding allocate_stack_code
then_base n e q t = ap (λ (p : Plan). pushed p e) q ∙ pushed_last (sized n (I ADDI 2 2 (neg_ℤ (pos n))) (pos n) (R SUB 2 2 5)) (R ADD 21 2 0) (answered e (R ADD 21 2 0) t)
