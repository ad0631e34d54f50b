-- What is asked of a buffer's bytes.
use Rattle.std.specs.Prelude.{Bool, cond, List, ℕ, ◌+◌, ◌*◌, ◌^◌, leb, eqb, length, get_or, take}
use Rattle.std.specs.List.{list_all}

-- the word at a place, little-endian; 0 where there is none
abbrev pub word_of : List ℕ → ℕ → ℕ
word_of b p =
    cond (leb (p + 4) (length b))
    (get_or b p 0 + get_or b (p + 1) 0 * 2 ^ 8 + get_or b (p + 2) 0 * 2 ^ 16 + get_or b (p + 3) 0 * 2 ^ 24)
    0

-- every byte is b
abbrev pub all_of : ℕ → List ℕ → Bool
all_of b s = list_all (λ c. eqb c b) s

-- the bytes of a memory up to a place
abbrev pub bytes_of : (memory : List ℕ) → (size : ℕ) → List ℕ
bytes_of memory size = take size memory

-- the byte that a character stands for: a tilde is a line's end
abbrev pub plain_of : ℕ → ℕ
plain_of b = cond (eqb b 126) 10 b
