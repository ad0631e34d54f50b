-- What is asked of a buffer's bytes.
use Rattle.std.specs.Prelude.{List, [], ◌∷◌, ℕ, ◌+◌, ◌*◌, ◌%◌}

-- the hash of bytes behind others whose hash is h: a polynomial at 257, modulo the prime 2^54 - 33
abbrev pub hash_of : ℕ → List ℕ → ℕ
hash_of h [] = h
hash_of h (b ∷ bs) = hash_of ((h * 257 + b + 1) % 18014398509481951) bs
