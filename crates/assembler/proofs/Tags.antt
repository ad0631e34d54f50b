-- Jumps in their memory: the tags.
use mathlib.Core.List.{List, [], ◌∷◌}
use Prim.Native.Nat.{ℕ, zero, suc, ◌+◌}
use Rattle.assembler.specs.Memory.{tag_at}

-- the tags of n jumps from number i on
unfoldable pub tags_of : List ℕ → ℕ → ℕ → List ℕ
tags_of memory i zero = []
tags_of memory i (suc n) = tag_at memory i ∷ tags_of memory (i + 1) n
