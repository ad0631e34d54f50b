-- The packed fields are those of the order that the line says. Assumes nothing.
use mathlib.Core.Path.{◌≡◌, refl, ◌∙◌}
use mathlib.Core.Bool.{Bool, true, false, cond}
use mathlib.Core.Option.{Option, some, none, map}
use mathlib.Core.List.{List, [], ◌∷◌}
use Prim.Native.Nat.{ℕ, zero, suc, ◌*◌, ◌+◌, ◌≤◌}
use native.Mathlib.Omega.{arith}
use borrow.Author.Tests.{le-ltb, ltb-false}
use lib.Dec.{ltb}
use lib.ListN.{replicate}
use Rattle.text.specs.Readers.{read_decimal}
use Rattle.text.specs.Inner.Short.{capped, short_of}
use Rattle.ast.specs.declared.Place.{Place}
use Rattle.form.specs.Inner.Syntax.{number, place, flag, Values}
use Rattle.form.specs.Text.{place_name}
use Rattle.form.specs.Inner.Read.{first, both, all_places, read_values}
use Rattle.fast.specs.Inner.Packed.{place_number, flag_number}
use Rattle.fast.specs.Inner.Fields.{bounded, onto, last, operands, behind, with_place, cell, with_flag, branch}
use Rattle.fast.proofs.Fields.{onto_none}

-- ---- a field is packed by its number, of any size

abbrev onto_read : Option ℕ → Option ℕ → Option ℕ
onto_read none o = none
onto_read (some n) o = onto n o

abbrev bounded_read : (bound : ℕ) → Option ℕ → Option ℕ
bounded_read b none = none
bounded_read b (some n) = bounded b n

onto_short : (f : List ℕ) (o : Option ℕ) → onto (short_of f) o ≡ onto_read (read_decimal f) o
unfolding short_of
onto_short f o = go (read_decimal f)
  where
    big : (n : ℕ) (t : Bool) → ltb n 10000 ≡ t → onto (cond t n 10000) o ≡ onto n o
    big n true h = refl
    big n false h = rw (le-ltb n 32 (omega (arith, ltb-false n 10000 h)))

    go : (d : Option ℕ) → onto (capped d) o ≡ onto_read d o
    go none = refl
    go (some n) = big n (ltb n 10000) refl

bounded_short : (b : ℕ) (f : List ℕ) → b ≤ 10000 → bounded b (short_of f) ≡ bounded_read b (read_decimal f)
unfolding short_of
bounded_short b f h = go (read_decimal f)
  where
    big : (n : ℕ) (t : Bool) → ltb n 10000 ≡ t → bounded b (cond t n 10000) ≡ bounded b n
    big n true g = refl
    big n false g = rw (le-ltb 10000 b h, le-ltb n b (omega (arith, ltb-false n 10000 g)))

    go : (d : Option ℕ) → bounded b (capped d) ≡ bounded_read b d
    go none = rw (le-ltb 10000 b h)
    go (some n) = big n (ltb n 10000) refl

-- ---- the values of the fields, packed

unfoldable pub values_packed : (k b : ℕ) → Values (replicate (suc k) number) → Option ℕ
values_packed zero b vs = bounded b vs.0
values_packed (suc k) b vs = onto vs.0 (values_packed k b vs.1)

abbrev pub read_packed : (k b : ℕ) → Option (Values (replicate (suc k) number)) → Option ℕ
read_packed k b none = none
read_packed k b (some vs) = values_packed k b vs

module _ {A B : Type 0} where
  no_both : (o : Option A) → both {B = B} o none ≡ none
  no_both none = refl
  no_both (some a) = refl

pub operands_read : (k b : ℕ) (fs : List (List ℕ)) → b ≤ 10000 → operands k b fs ≡ read_packed k b (read_values (replicate (suc k) number) fs)
unfolding operands read_values values_packed
operands_read zero b [] h = refl
operands_read zero b (f ∷ []) h = bounded_short b f h ∙ go (read_decimal f)
  where
    go : (d : Option ℕ) → bounded_read b d ≡ read_packed 0 b (both d (some tt))
    go none = refl
    go (some n) = refl
operands_read zero b (f ∷ g ∷ fs) h = rw (no_both {B = Values []} (read_decimal f))
operands_read (suc k) b [] h = refl
operands_read (suc k) b (f ∷ fs) h = onto_short f (operands k b fs) ∙ rw (operands_read k b fs h) (go (read_decimal f) (read_values (replicate (suc k) number) fs))
  where
    go : (d : Option ℕ) (o : Option (Values (replicate (suc k) number))) → onto_read d (read_packed k b o) ≡ read_packed (suc k) b (both d o)
    go none o = refl
    go (some n) none = onto_none n
    go (some n) (some vs) = refl

-- ---- a cell, a branch

abbrev pub cell_read : (c : ℕ) → Option (Values (number ∷ place ∷ number ∷ [])) → Option ℕ
cell_read c none = none
cell_read c (some vs) = behind (c + 16 * place_number vs.1.0) (onto vs.0 (bounded 4096 vs.1.1.0))

pub cell_values : (c : ℕ) (fs : List (List ℕ)) → cell c fs ≡ cell_read c (read_values (number ∷ place ∷ number ∷ []) fs)
unfolding operands read_values values_packed
cell_values c [] = refl
cell_values c (f ∷ []) = rw (no_both {B = Values (place ∷ number ∷ [])} (read_decimal f))
cell_values c (f ∷ g ∷ fs) = rw (onto_short f (last 4096 fs), operands_read 0 4096 fs (omega arith)) (go (read_decimal f) (first place_name g all_places) (read_values (number ∷ []) fs))
  where
    go : (d : Option ℕ) (p : Option Place) (o : Option (Values (number ∷ []))) → with_place c p (onto_read d (read_packed 0 4096 o)) ≡ cell_read c (both d (both p o))
    go none none o = refl
    go none (some p) o = refl
    go (some n) none o = refl
    go (some n) (some p) none = rw (onto_none n)
    go (some n) (some p) (some vs) = refl

abbrev pub branch_read : (c : ℕ) → Option (Values (number ∷ number ∷ flag ∷ [])) → Option ℕ
branch_read c none = none
branch_read c (some vs) = behind (c + 16 * flag_number vs.1.1.0) (onto vs.0 (bounded 1024 vs.1.0))

pub branch_values : (c : ℕ) (fs : List (List ℕ)) → branch c fs ≡ branch_read c (read_values (number ∷ number ∷ flag ∷ []) fs)
unfolding read_values
branch_values c [] = refl
branch_values c (f ∷ []) = rw (no_both {B = Values (number ∷ flag ∷ [])} (read_decimal f))
branch_values c (f ∷ g ∷ fs) = rw (bounded_short 1024 g (omega arith), onto_short f (bounded_read 1024 (read_decimal g))) (go (read_decimal f) (read_decimal g) (read_values (flag ∷ []) fs))
  where
    go : (d e : Option ℕ) (o : Option (Values (flag ∷ []))) → with_flag c (map (λ vs. vs.0) o) (onto_read d (bounded_read 1024 e)) ≡ branch_read c (both d (both e o))
    go none e none = refl
    go none e (some vs) = refl
    go (some n) none none = refl
    go (some n) none (some vs) = rw (onto_none n)
    go (some n) (some m) none = refl
    go (some n) (some m) (some vs) = refl
