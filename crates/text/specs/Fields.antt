-- Fields parted by commas (44).
use Rattle.std.specs.Prelude.{List, [], ◌∷◌, ◌++◌, ℕ}

-- the fields behind the first, each with a comma in front
unfoldable pub commas : List (List ℕ) → List ℕ
commas [] = []
commas (f ∷ fs) = 44 ∷ f ++ commas fs

-- "parted by commas, no quoting"
abbrev pub parted : List (List ℕ) → List ℕ
parted [] = []
parted (f ∷ fs) = f ++ commas fs

-- a byte in front of the first field, or of the first line
abbrev pub onto : ℕ → List (List ℕ) → List (List ℕ)
onto c [] = (c ∷ []) ∷ []
onto c (f ∷ fs) = (c ∷ f) ∷ fs
