-- Jumps in their memory: five numbers each.
use Rattle.std.specs.Prelude.{List, [], ◌∷◌, ℕ, zero, suc, ◌+◌, ◌*◌, get_or}

pub record Jump : Type 0 where
  pub word : ℕ  -- the place of its word
  pub label : ℕ
  pub reg : ℕ
  pub kind : ℕ

-- jump i in the memory, and its tag
abbrev pub jump_at : List ℕ → ℕ → Jump
jump_at memory i =
    record {
      word = get_or memory (5 * i) 0;
      label = get_or memory (5 * i + 1) 0;
      reg = get_or memory (5 * i + 2) 0;
      kind = get_or memory (5 * i + 3) 0;
    }

abbrev pub tag_at : List ℕ → ℕ → ℕ
tag_at memory i = get_or memory (5 * i + 4) 0

-- n jumps from number i on
unfoldable pub jumps_of : List ℕ → ℕ → ℕ → List Jump
jumps_of memory i zero = []
jumps_of memory i (suc n) = jump_at memory i ∷ jumps_of memory (i + 1) n
