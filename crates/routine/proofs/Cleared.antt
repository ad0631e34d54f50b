-- Zeros, byte by byte. Assumes nothing.
use mathlib.Core.Path.{◌≡◌, refl, ap, ◌∙◌}
use mathlib.Core.List.{List, ◌∷◌, ◌++◌}
use Prim.Native.Nat.{ℕ, zero, suc, ◌+◌, ◌<◌}
use native.Mathlib.Numerals.{add-one}
use lib.ListN.{length, get_or, drop, set, replicate, length-replicate}
use lib.Seq.{drop-cons, set_at}

zeros_next : (i : ℕ) (ys : List ℕ) → replicate i 0 ++ (0 ∷ ys) ≡ replicate (suc i) 0 ++ ys
zeros_next zero ys = refl
zeros_next (suc i) ys = ap (λ (l : List ℕ). 0 ∷ l) (zeros_next i ys)

pub cleared_next : (b : List ℕ) (i : ℕ) → i < length b → set (replicate i 0 ++ drop i b) i 0 ≡ replicate (i + 1) 0 ++ drop (i + 1) b
cleared_next b i h =
    rw (add-one i, drop-cons b i 0 h) (set_at (replicate i 0) (get_or b i 0) (drop (suc i) b) 0 i (length-replicate i 0) ∙ zeros_next i (drop (suc i) b))
