-- How many words the pieces have.
use mathlib.Core.Path.{◌≡◌, refl}
use mathlib.Core.Bool.{Bool, true, false, cond}
use mathlib.Core.List.{List, [], ◌∷◌, ◌++◌, map}
use Prim.Native.Nat.{ℕ, zero, suc, ◌+◌, ◌*◌, ◌≤◌}
use native.Mathlib.Omega.{arith}
use borrow.Author.Tests.{leb-true}
use lib.Dec.{eqb, leb}
use lib.IntN.{pos}
use lib.ListN.{length, length-append, length-map}
use Rattle.isa.specs.Instr.{Instr}
use Rattle.isa.specs.Encode.{encode}
use Rattle.assembler.specs.Item.{jump, label}
use Rattle.assembler.specs.declared.JumpKind.TheVariants.{Bne}
use Rattle.assembler.specs.Resolved.{resolved}
use Rattle.accesses.specs.Code.{li_code}
use Rattle.accesses.proofs.Lengths.{li_length}
use Rattle.frame_code.specs.Items.{code, times_over, count_down, repeated}
use Rattle.frame_code.proofs.Walk.{resolved_code, resolved_instrs}

module _ (at : ℕ → ℕ) (here n l : ℕ) (first each : List Instr) (six : length each ≡ 6) where
  pub over_length : (k : ℕ) → length (times_over k each) ≡ 6 * k
  over_length zero = refl
  over_length (suc k) = omega (arith, length-append each (times_over k each), over_length k)

  -- in a row
  pub row_words : length (resolved at here (code (first ++ times_over n each))) ≡ length first + 6 * n
  row_words = rw (resolved_instrs at here (first ++ times_over n each), length-map (first ++ times_over n each) encode, length-append first (times_over n each), over_length n)

  abbrev start : List Instr
  start = first ++ li_code 7 (pos n)

  -- by the loop
  pub loop_words : length (resolved at here (code start ++ (label l ∷ (code (each ++ (count_down ∷ [])) ++ (jump Bne l 0 ∷ []))))) ≡ length first + length (li_code 7 (pos n)) + 8
  unfolding resolved
  loop_words =
      rw (resolved_code at here start (label l ∷ (code (each ++ (count_down ∷ [])) ++ (jump Bne l 0 ∷ []))), length-append (map encode start) (resolved at (here + 4 * length start) (code (each ++ (count_down ∷ [])) ++ (jump Bne l 0 ∷ []))), length-map start encode)
      (rw (resolved_code at (here + 4 * length start) (each ++ (count_down ∷ [])) (jump Bne l 0 ∷ []), length-append (map encode (each ++ (count_down ∷ []))) _, length-map (each ++ (count_down ∷ [])) encode)
      (omega (arith, length-append each (count_down ∷ []), six, length-append first (li_code 7 (pos n)))))

  pub repeated_words : length (resolved at here (repeated n first each l)) ≤ length first + 96
  unfolding repeated resolved
  repeated_words = by (eqb n 0) (leb n 16) refl
    where
      by : (z t : Bool) → leb n 16 ≡ t → length (resolved at here (cond z [] (cond t (code (first ++ times_over n each)) (code start ++ (label l ∷ (code (each ++ (count_down ∷ [])) ++ (jump Bne l 0 ∷ []))))))) ≤ length first + 96
      by true t e = omega arith
      by false true e = omega (arith, row_words, leb-true n 16 e)
      by false false e = omega (arith, loop_words, li_length 7 (pos n))

  pub repeated_none : eqb n 0 ≡ true → length (resolved at here (repeated n first each l)) ≡ 0
  unfolding repeated resolved
  repeated_none e = rw e
