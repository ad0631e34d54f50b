-- Words written into a buffer. Assumes nothing.
use mathlib.Core.Path.{◌≡◌, refl, sym, ap, ◌∙◌}
use mathlib.Core.List.{List, [], ◌∷◌, ◌++◌, append_assoc, flat_map}
use Prim.Native.Nat.{ℕ, suc, ◌+◌, ◌*◌, ◌<◌, ◌≤◌}
use native.Mathlib.Nat.{add-zero}
use native.Mathlib.Numerals.{add-one}
use native.Mathlib.Omega.{arith}
use lib.ListN.{length, set, take, drop, get_or}
use borrow.Rule.Slice.PartMut.{put_mid}
use lib.Seq.{drop-drop, sets, sets-eq, length-sets, take-suc, length-take-le}
use Rattle.assembler.specs.Bytes.{le_bytes, bytes, written}

pub length_written : (b : List ℕ) (at : ℕ) (ws : List ℕ) → length (written b at ws) ≡ length b
unfolding written
length_written b at ws = length-sets b at (bytes ws)

pub bytes_append : (xs ys : List ℕ) → bytes (xs ++ ys) ≡ bytes xs ++ bytes ys
unfolding bytes flat_map
bytes_append [] ys = refl
bytes_append (x ∷ xs) ys = ap (λ (l : List ℕ). le_bytes x ++ l) (bytes_append xs ys)

pub length_bytes : (ws : List ℕ) → length (bytes ws) ≡ 4 * length ws
unfolding bytes flat_map
length_bytes [] = refl
length_bytes (w ∷ ws) =
    let h : length (bytes ws) ≡ 4 * length ws = length_bytes ws in
    omega arith

sets_append : (b : List ℕ) (at : ℕ) (xs ys : List ℕ) → sets b at (xs ++ ys) ≡ sets (sets b at xs) (at + length xs) ys
sets_append b at [] ys = rw add-zero
sets_append b at (x ∷ xs) ys =
    let e : suc at + length xs ≡ at + suc (length xs) = omega arith in
    sets_append (set b at x) (suc at) xs ys ∙ ap (λ (k : ℕ). sets (sets (set b at x) (suc at) xs) k ys) e

pub written_append : (b : List ℕ) (at : ℕ) (xs ys : List ℕ) → written b at (xs ++ ys) ≡ written (written b at xs) (at + 4 * length xs) ys
unfolding written
written_append b at xs ys =
    ap (sets b at) (bytes_append xs ys) ∙ sets_append b at (bytes xs) (bytes ys)
    ∙ ap (λ (k : ℕ). sets (sets b at (bytes xs)) (at + k) (bytes ys)) (length_bytes xs)

pub written_cons : (b : List ℕ) (at w : ℕ) (ws : List ℕ) → written b at (w ∷ ws) ≡ written (written b at (w ∷ [])) (at + 4) ws
written_cons b at w ws = written_append b at (w ∷ []) ws

-- words, and words behind them
pub written_then : (b : List ℕ) (at : ℕ) (xs ys : List ℕ) {c d : List ℕ} → c ≡ written b at xs → d ≡ written c (at + 4 * length xs) ys → d ≡ written b at (xs ++ ys)
written_then b at xs ys p q =
    q ∙ ap (λ (l : List ℕ). written l (at + 4 * length xs) ys) p ∙ sym (written_append b at xs ys)

pub written_none : (b : List ℕ) (at : ℕ) → written b at [] ≡ b
unfolding written bytes flat_map
written_none b at = refl

-- one word more of a list, behind those before it
pub written_next : (b : List ℕ) (at i : ℕ) (ws : List ℕ) → i < length ws
    → written b at (take (i + 1) ws) ≡ written (written b at (take i ws)) (at + 4 * i) (get_or ws i 0 ∷ [])
written_next b at i ws h =
    let n : length (take i ws) ≡ i = length-take-le i ws (omega arith) in
    rw (add-one, take-suc ws i 0)
    (written_append b at (take i ws) (get_or ws i 0 ∷ [])
    ∙ ap (λ (k : ℕ). written (written b at (take i ws)) (at + 4 * k) (get_or ws i 0 ∷ [])) n)

-- what stands before, the words, what stands behind
pub written_is : (b : List ℕ) (at : ℕ) (ws : List ℕ) → at + 4 * length ws ≤ length b
    → written b at ws ≡ take at b ++ (bytes ws ++ drop (at + 4 * length ws) b)
unfolding written
written_is b at ws h =
    let e : length (bytes ws) ≡ 4 * length ws = length_bytes ws in
    sets-eq (bytes ws) b at (omega arith) ∙ ap (λ (k : ℕ). take at b ++ bytes ws ++ drop (at + k) b) e
    ∙ append_assoc (take at b) (bytes ws) (drop (at + 4 * length ws) b)

-- a part that `copy_from_slice` wrote
pub part_is : (b : List ℕ) (at k : ℕ) (xs : List ℕ) → k ≡ length xs → at + k ≤ length b → put_mid at k b xs ≡ sets b at xs
part_is b at k xs e h =
    rw (e, drop-drop (length xs) at b)
    (sym (sets-eq xs b at (omega arith) ∙ append_assoc (take at b) xs (drop (at + length xs) b)))
