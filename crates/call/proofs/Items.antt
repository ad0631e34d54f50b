-- Laws of items one behind another: their bytes, their words, and where they set labels.
use mathlib.Core.Path.{◌≡◌, refl, subst}
use mathlib.Core.Bool.{Bool, true, false, cond}
use mathlib.Core.List.{List, [], ◌∷◌, ◌++◌, map}
use mathlib.Core.Option.{some, get_or}
use Prim.Native.Nat.{ℕ, ◌+◌, ◌*◌, ◌%◌, ◌≤◌}
use native.Mathlib.Nat.{add_assoc, add-zero}
use native.Mathlib.Omega.{arith}
use borrow.Author.Tests.{eq-eqb, ne_eqb}
use lib.Dec.{eqb}
use lib.ListN.{length}
use Rattle.isa.specs.Instr.{Instr}
use Rattle.assembler.specs.Item.{Item, instr, raw, jump, label}
use Rattle.assembler.specs.Resolved.{resolved, label_place}
use Rattle.frame_code.proofs.Walk.{Stands, resolved_append as resolved_behind}
use Rattle.call.specs.Layout.{span}

pub span_append : (xs ys : List Item) → span (xs ++ ys) ≡ span xs + span ys
unfolding span
span_append [] ys = omega arith
span_append (instr i ∷ xs) ys = omega (arith, span_append xs ys)
span_append (raw w ∷ xs) ys = omega (arith, span_append xs ys)
span_append (jump k l r ∷ xs) ys = omega (arith, span_append xs ys)
span_append (label l ∷ xs) ys = span_append xs ys

pub span_four : (xs : List Item) → span xs % 4 ≡ 0
unfolding span
span_four [] = refl
span_four (instr i ∷ xs) = omega (arith, span_four xs)
span_four (raw w ∷ xs) = omega (arith, span_four xs)
span_four (jump k l r ∷ xs) = omega (arith, span_four xs)
span_four (label l ∷ xs) = span_four xs

pub resolved_length : (at : ℕ → ℕ) (h : ℕ) (xs : List Item) → 4 * length (resolved at h xs) ≡ span xs
unfolding resolved span
resolved_length at h [] = refl
resolved_length at h (instr i ∷ xs) = omega (arith, resolved_length at (h + 4) xs)
resolved_length at h (raw w ∷ xs) = omega (arith, resolved_length at (h + 4) xs)
resolved_length at h (jump k l r ∷ xs) = omega (arith, resolved_length at (h + 4) xs)
resolved_length at h (label l ∷ xs) = resolved_length at h xs

pub resolved_append : (at : ℕ → ℕ) (h : ℕ) (xs ys : List Item) → resolved at h (xs ++ ys) ≡ resolved at h xs ++ resolved at (h + span xs) ys
resolved_append at h xs ys = rw (resolved_length at h xs) at (resolved_behind at h xs ys)

-- ---- labels

module _ (l : ℕ) where
  -- the items don't set label l
  abbrev pub Unset : List Item → Type 0
  Unset [] = Unit {0}
  Unset (instr i ∷ xs) = Unset xs
  Unset (raw w ∷ xs) = Unset xs
  Unset (jump k m r ∷ xs) = Unset xs
  Unset (label m ∷ xs) = (m ≡ l → ⊥) × Unset xs

  pub unset_append : (xs ys : List Item) → Unset xs → Unset ys → Unset (xs ++ ys)
  unset_append [] ys u v = v
  unset_append (instr i ∷ xs) ys u v = unset_append xs ys u v
  unset_append (raw w ∷ xs) ys u v = unset_append xs ys u v
  unset_append (jump k m r ∷ xs) ys u v = unset_append xs ys u v
  unset_append (label m ∷ xs) ys u v = (u.0, unset_append xs ys u.1 v)

  pub unset_instrs : (is : List Instr) → Unset (map instr is)
  unset_instrs [] = tt
  unset_instrs (i ∷ is) = unset_instrs is

  -- the search goes on behind them
  pub past : (h : ℕ) (xs ys : List Item) → Unset xs → label_place l h (xs ++ ys) ≡ label_place l (h + span xs) ys
  unfolding label_place span
  past h [] ys u = rw (add-zero h)
  past h (instr i ∷ xs) ys u = rw (← (add_assoc h 4 (span xs))) (past (h + 4) xs ys u)
  past h (raw w ∷ xs) ys u = rw (← (add_assoc h 4 (span xs))) (past (h + 4) xs ys u)
  past h (jump k m r ∷ xs) ys u = rw (← (add_assoc h 4 (span xs))) (past (h + 4) xs ys u)
  past h (label m ∷ xs) ys u = rw (ne_eqb m l u.0) (past h xs ys u.1)

  pub found : (h a : ℕ) (xs ys : List Item) → label_place l h xs ≡ some a → label_place l h (xs ++ ys) ≡ some a
  unfolding label_place
  found h a [] ys e = let z : ◌≡◌ {A = ℕ} 0 1 = cc in absurd (omega arith)
  found h a (instr i ∷ xs) ys e = found (h + 4) a xs ys e
  found h a (raw w ∷ xs) ys e = found (h + 4) a xs ys e
  found h a (jump k m r ∷ xs) ys e = found (h + 4) a xs ys e
  found h a (label m ∷ xs) ys e = by (eqb m l) (λ q. found h a xs ys q) e
    where
      by : (b : Bool) → (label_place l h xs ≡ some a → label_place l h (xs ++ ys) ≡ some a) → cond b (some h) (label_place l h xs) ≡ some a → cond b (some h) (label_place l h (xs ++ ys)) ≡ some a
      by true f q = q
      by false f q = f q

  -- a label's place is among the items, at a word
  pub within : (h a : ℕ) (xs : List Item) → label_place l h xs ≡ some a → (h ≤ a) × (a ≤ h + span xs) × (a % 4 ≡ h % 4)
  unfolding label_place span
  within h a [] e = let z : ◌≡◌ {A = ℕ} 0 1 = cc in absurd (omega arith)
  within h a (instr i ∷ xs) e = omega (arith, within (h + 4) a xs e)
  within h a (raw w ∷ xs) e = omega (arith, within (h + 4) a xs e)
  within h a (jump k m r ∷ xs) e = omega (arith, within (h + 4) a xs e)
  within h a (label m ∷ xs) e = by (eqb m l) (λ q. within h a xs q) e
    where
      by : (b : Bool) → (label_place l h xs ≡ some a → (h ≤ a) × (a ≤ h + span xs) × (a % 4 ≡ h % 4)) → cond b (some h) (label_place l h xs) ≡ some a → (h ≤ a) × (a ≤ h + span xs) × (a % 4 ≡ h % 4)
      by true f q = let z : h ≡ a = cc in omega arith
      by false f q = f q

-- ---- labels that are set once

-- no raw word; each label has K, and none is set twice
abbrev pub Fresh : List Item → (ℕ → Type 0) → Type 0
Fresh [] K = Unit {0}
Fresh (instr i ∷ xs) K = Fresh xs K
Fresh (raw w ∷ xs) K = ⊥
Fresh (jump k m r ∷ xs) K = Fresh xs K
Fresh (label m ∷ xs) K = K m × Fresh xs (λ l. K l × (m ≡ l → ⊥))

pub fresh_instrs : (is : List Instr) (ys : List Item) (K : ℕ → Type 0) → Fresh ys K → Fresh (map instr is ++ ys) K
fresh_instrs [] ys K f = f
fresh_instrs (i ∷ is) ys K f = fresh_instrs is ys K f

pub fresh_then : (xs : List Item) (is : List Instr) (K : ℕ → Type 0) → Fresh xs K → Fresh (xs ++ map instr is) K
fresh_then [] [] K f = tt
fresh_then [] (i ∷ is) K f = fresh_then [] is K f
fresh_then (instr i ∷ xs) is K f = fresh_then xs is K f
fresh_then (raw w ∷ xs) is K f = f
fresh_then (jump k m r ∷ xs) is K f = fresh_then xs is K f
fresh_then (label m ∷ xs) is K f = (f.0, fresh_then xs is (λ l. K l × (m ≡ l → ⊥)) f.1)

-- a label without K isn't set
pub fresh_unset : (l : ℕ) (xs : List Item) (K : ℕ → Type 0) → Fresh xs K → (K l → ⊥) → Unset l xs
fresh_unset l [] K f n = tt
fresh_unset l (instr i ∷ xs) K f n = fresh_unset l xs K f n
fresh_unset l (raw w ∷ xs) K f n = absurd f
fresh_unset l (jump k m r ∷ xs) K f n = fresh_unset l xs K f n
fresh_unset l (label m ∷ xs) K f n = (λ e. n (subst K e f.0), fresh_unset l xs (λ k. K k × (m ≡ k → ⊥)) f.1 (λ v. n v.0))

-- where `at` has each label as it is found from `here` on, the items stand as `at` says
pub stands_of : (at : ℕ → ℕ) (h : ℕ) (xs ys : List Item) (K : ℕ → Type 0) → Fresh xs K → ((l : ℕ) → K l → at l ≡ get_or (label_place l h (xs ++ ys)) 0) → Stands at h xs
unfolding label_place
stands_of at h [] ys K f e = tt
stands_of at h (instr i ∷ xs) ys K f e = stands_of at (h + 4) xs ys K f e
stands_of at h (raw w ∷ xs) ys K f e = absurd f
stands_of at h (jump k m r ∷ xs) ys K f e = stands_of at (h + 4) xs ys K f e
stands_of at h (label m ∷ xs) ys K f e = (
  rw (eq-eqb m m refl) at (e m f.0),
  stands_of at h xs ys (λ l. K l × (m ≡ l → ⊥)) f.1 (λ l v. rw (ne_eqb m l v.1) at (e l v.0)),
)

-- ---- a word behind every label

abbrev pub Worded : List Item → Type 0
Worded [] = Unit {0}
Worded (instr i ∷ xs) = Worded xs
Worded (raw w ∷ xs) = Worded xs
Worded (jump k m r ∷ xs) = Worded xs
Worded (label m ∷ xs) = (4 ≤ span xs) × Worded xs

pub worded_append : (xs ys : List Item) → 4 ≤ span ys → Worded ys → Worded (xs ++ ys)
worded_append [] ys h w = w
worded_append (instr i ∷ xs) ys h w = worded_append xs ys h w
worded_append (raw v ∷ xs) ys h w = worded_append xs ys h w
worded_append (jump k m r ∷ xs) ys h w = worded_append xs ys h w
worded_append (label m ∷ xs) ys h w = (omega (arith, span_append xs ys), worded_append xs ys h w)

pub worded_instrs : (is : List Instr) → Worded (map instr is)
worded_instrs [] = tt
worded_instrs (i ∷ is) = worded_instrs is

-- a label's place lies before the end
pub before_end : (l h a : ℕ) (xs : List Item) → Worded xs → label_place l h xs ≡ some a → a + 4 ≤ h + span xs
unfolding label_place span
before_end l h a [] w e = let z : ◌≡◌ {A = ℕ} 0 1 = cc in absurd (omega arith)
before_end l h a (instr i ∷ xs) w e = omega (arith, before_end l (h + 4) a xs w e)
before_end l h a (raw v ∷ xs) w e = omega (arith, before_end l (h + 4) a xs w e)
before_end l h a (jump k m r ∷ xs) w e = omega (arith, before_end l (h + 4) a xs w e)
before_end l h a (label m ∷ xs) w e = by (eqb m l) (λ q. before_end l h a xs w.1 q) e
  where
    by : (b : Bool) → (label_place l h xs ≡ some a → a + 4 ≤ h + span xs) → cond b (some h) (label_place l h xs) ≡ some a → a + 4 ≤ h + span xs
    by true f q = let z : h ≡ a = cc in omega (arith, w.0)
    by false f q = f q
