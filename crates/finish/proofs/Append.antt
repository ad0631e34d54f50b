-- Items joined: their jumps and labels. Assumes nothing.
use mathlib.Core.Path.{◌≡◌, refl, ap, ◌∙◌}
use mathlib.Core.Bool.{Bool, true, false, cond}
use mathlib.Core.List.{List, [], ◌∷◌, ◌++◌}
use mathlib.Core.Option.{Option, none, some}
use Prim.Native.Nat.{ℕ, suc, ◌+◌, ◌*◌, ◌≤◌, ◌<◌}
use native.Mathlib.Omega.{arith}
use lib.Dec.{eqb}
use lib.IntN.{sub_ℕ}
use lib.ListN.{length}
use Rattle.isa.specs.Encode.{encode}
use Rattle.assembler.specs.Item.{Item, instr, raw, jump, label}
use Rattle.assembler.specs.Jump.{kind_number, jump_instr}
use Rattle.assembler.specs.Memory.{Jump}
use Rattle.assembler.specs.Put.{words}
use Rattle.assembler.specs.Resolved.{resolved, label_place, jumps_in}
use Rattle.finish.proofs.Represents.{Labelled}

-- the place behind items, in two steps
step : (here n : ℕ) → here + 4 + 4 * n ≡ here + 4 * suc n
step here n = omega arith

none_here : (here : ℕ) → here ≡ here + 4 * 0
none_here here = omega arith

pub jumps_in_append : (here : ℕ) (is js : List Item) → jumps_in here (is ++ js) ≡ jumps_in here is ++ jumps_in (here + 4 * length (words is)) js
unfolding jumps_in words
jumps_in_append here [] js = ap (λ (h : ℕ). jumps_in h js) (none_here here)
jumps_in_append here (instr i ∷ is) js = jumps_in_append (here + 4) is js ∙ ap (λ (h : ℕ). jumps_in (here + 4) is ++ jumps_in h js) (step here (length (words is)))
jumps_in_append here (raw w ∷ is) js = jumps_in_append (here + 4) is js ∙ ap (λ (h : ℕ). jumps_in (here + 4) is ++ jumps_in h js) (step here (length (words is)))
jumps_in_append here (jump k l r ∷ is) js =
    ap (λ (x : List Jump). record { word = here; label = l; reg = r; kind = kind_number k } ∷ x)
    (jumps_in_append (here + 4) is js ∙ ap (λ (h : ℕ). jumps_in (here + 4) is ++ jumps_in h js) (step here (length (words is))))
jumps_in_append here (label l ∷ is) js = jumps_in_append here is js

-- the first place, or the other
abbrev pub or_else : Option ℕ → Option ℕ → Option ℕ
or_else (some p) o = some p
or_else none o = o

pub label_place_append : (l here : ℕ) (is js : List Item) → label_place l here (is ++ js) ≡ or_else (label_place l here is) (label_place l (here + 4 * length (words is)) js)
unfolding label_place words
label_place_append l here [] js = ap (λ (h : ℕ). label_place l h js) (none_here here)
label_place_append l here (instr i ∷ is) js = label_place_append l (here + 4) is js ∙ ap (λ (h : ℕ). or_else (label_place l (here + 4) is) (label_place l h js)) (step here (length (words is)))
label_place_append l here (raw w ∷ is) js = label_place_append l (here + 4) is js ∙ ap (λ (h : ℕ). or_else (label_place l (here + 4) is) (label_place l h js)) (step here (length (words is)))
label_place_append l here (jump k m r ∷ is) js = label_place_append l (here + 4) is js ∙ ap (λ (h : ℕ). or_else (label_place l (here + 4) is) (label_place l h js)) (step here (length (words is)))
label_place_append l here (label m ∷ is) js = by (eqb m l) (label_place_append l here is js)
  where
    by : (t : Bool) → label_place l here (is ++ js) ≡ or_else (label_place l here is) (label_place l (here + 4 * length (words is)) js)
        → cond t (some here) (label_place l here (is ++ js)) ≡ or_else (cond t (some here) (label_place l here is)) (label_place l (here + 4 * length (words is)) js)
    by true e = refl
    by false e = e

-- no label is further than the items' end
pub label_within : (l here p : ℕ) (is : List Item) → label_place l here is ≡ some p → p ≤ here + 4 * length (words is)
unfolding label_place words
label_within l here p [] e = let z : ◌≡◌ {A = ℕ} 0 1 = cc in absurd (omega arith)
label_within l here p (instr i ∷ is) e = omega (arith, label_within l (here + 4) p is e)
label_within l here p (raw w ∷ is) e = omega (arith, label_within l (here + 4) p is e)
label_within l here p (jump k m r ∷ is) e = omega (arith, label_within l (here + 4) p is e)
label_within l here p (label m ∷ is) e = by (eqb m l) e (label_within l here p is)
  where
    by : (t : Bool) → cond t (some here) (label_place l here is) ≡ some p → (label_place l here is ≡ some p → p ≤ here + 4 * length (words is)) → p ≤ here + 4 * length (words is)
    by true q f = let z : here ≡ p = cc in omega arith
    by false q f = f q

-- resolved words depend on the places of labels that have an entry
pub resolved_same : (at at' : ℕ → ℕ) → ((l : ℕ) → l < 2039 → at l ≡ at' l) → (here : ℕ) (is : List Item) → Labelled is → resolved at here is ≡ resolved at' here is
unfolding resolved
resolved_same at at' e here [] h = refl
resolved_same at at' e here (instr i ∷ is) h = ap (λ (x : List ℕ). encode i ∷ x) (resolved_same at at' e (here + 4) is h)
resolved_same at at' e here (raw w ∷ is) h = ap (λ (x : List ℕ). w ∷ x) (resolved_same at at' e (here + 4) is h)
resolved_same at at' e here (jump k l r ∷ is) h =
    ap (λ (p : ℕ). encode (jump_instr k r (sub_ℕ p here)) ∷ resolved at (here + 4) is) (e l h.0)
    ∙ ap (λ (x : List ℕ). encode (jump_instr k r (sub_ℕ (at' l) here)) ∷ x) (resolved_same at at' e (here + 4) is h.1)
resolved_same at at' e here (label l ∷ is) h = resolved_same at at' e here is h.1
