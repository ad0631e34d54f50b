-- No answer is longer than 245,760 bytes: 16,384 lines of 15.
use mathlib.Core.List.{List, [], ◌∷◌}
use Prim.Native.Nat.{ℕ, ◌+◌, ◌*◌, ◌^◌, ◌<◌, ◌≤◌}
use native.Mathlib.Omega.{arith}
use lib.ListN.{length, length-append}
use Rattle.print.specs.Text.{words_of, word_lines, refusal_line}
use Rattle.print.proofs.Counts.{decimal_short}
use Rattle.print.proofs.Lines.{length_word_line, length_refusal_line}

pub words_few : (s : List ℕ) → 4 * length (words_of s) ≤ length s
unfolding words_of
words_few [] = omega arith
words_few (a ∷ []) = omega arith
words_few (a ∷ b ∷ []) = omega arith
words_few (a ∷ b ∷ c ∷ []) = omega arith
words_few (a ∷ b ∷ c ∷ d ∷ s) = omega (arith, words_few s)

-- offsets of at most 5 digits
lines_short : (offset : ℕ) (ws : List ℕ) → offset + 4 * length ws ≤ 99999 → length (word_lines offset ws) ≤ 15 * length ws
unfolding word_lines
lines_short offset [] h = omega arith
lines_short offset (w ∷ ws) h =
    let a = length_word_line offset w in
    let b = decimal_short 4 offset (omega arith) in
    let c = lines_short (offset + 4) ws (omega arith) in
    simp length-append (omega arith)

pub words_short : (s : List ℕ) → length s ≤ 65536 → length (word_lines 0 (words_of s)) ≤ 245760
words_short s h =
    let a = words_few s in
    let b = lines_short 0 (words_of s) (omega arith) in
    omega arith

pub refusal_short : (number line : ℕ) → number < 256 → line < 2 ^ 32 → length (refusal_line number line) ≤ 245760
refusal_short number line h g =
    let a = length_refusal_line number line in
    let b = decimal_short 2 number (omega arith) in
    let c = decimal_short 9 line (omega arith) in
    omega arith
