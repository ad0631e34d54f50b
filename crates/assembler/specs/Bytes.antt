-- Bytes and words in a buffer.
use Rattle.std.specs.Prelude.{cond, ℕ, ◌+◌, ◌*◌, ◌/◌, ◌%◌, ◌^◌, min, leb, length}
use mathlib.Core.List.{List, [], ◌∷◌, flat_map}
use Rattle.std.proofs.lemmas.List.Edits.{sets}
use Rattle.assembler.specs.Limit.{room_limit}

-- a word's four bytes, little-endian
abbrev pub le_bytes : ℕ → List ℕ
le_bytes w = w % 256 ∷ w / 2 ^ 8 % 256 ∷ w / 2 ^ 16 % 256 ∷ w / 2 ^ 24 % 256 ∷ []

unfoldable pub bytes : List ℕ → List ℕ
bytes ws = flat_map le_bytes ws

-- the buffer with words written over it from byte `at` on
unfoldable pub written : List ℕ → ℕ → List ℕ → List ℕ
written buf at ws = sets buf at (bytes ws)

-- how many bytes of a buffer of n bytes count
abbrev pub room : ℕ → ℕ
room n = min n room_limit

-- the words written from byte `at` on, if what counts of the buffer goes so far
abbrev pub fitted : List ℕ → ℕ → List ℕ → List ℕ
fitted buf at ws = cond (leb (at + 4 * length ws) (room (length buf))) (written buf at ws) buf
