-- A file as it is read: its line 1, and its lines from line 2 on. Lines are counted from 0, which is line 2 of the file.
use Rattle.std.specs.Prelude.{cond, List, [], ◌∷◌, ℕ, suc, eqb}
use Rattle.std.proofs.Math.Option.{Option, some, none}
use Rattle.ast.specs.declared.Head.{Head}
use Rattle.ast.specs.Constant.{constant_bits}
use Rattle.ast.specs.Uses.{sets}
use Rattle.reading.specs.Line.{Line, order, constant}

pub record Program : Type 0 where
  pub head : Head
  pub lines : List Line

-- "Constants are numbered as they come": the bits of each.
unfoldable pub constants : List Line → List ℕ
constants [] = []
constants (order o ∷ ls) = constants ls
constants (constant c ∷ ls) = constant_bits c ∷ constants ls

-- n where label l is set, else what is found further on
abbrev pub here_or : (l n : ℕ) → Option ℕ → Option ℕ → Option ℕ
here_or l n none further = further
here_or l n (some k) further = cond (eqb k l) (some n) further

-- the line that sets label l, where the first of the lines has number n
unfoldable pub label_line : (l n : ℕ) → List Line → Option ℕ
label_line l n [] = none
label_line l n (order o ∷ ls) = here_or l n (sets o) (label_line l (suc n) ls)
label_line l n (constant c ∷ ls) = label_line l (suc n) ls
