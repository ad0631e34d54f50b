-- The first line of what is left of a file, from its length alone.
use mathlib.Core.Bool.{Bool, true, false}
use mathlib.Core.List.{List, [], ◌∷◌}
use mathlib.Core.Path.{◌≡◌, refl, ap, sym, subst, ◌∙◌}
use Prim.Native.Nat.{ℕ, suc, ◌+◌, ◌-◌, ◌≤◌, ◌<◌}
use native.Mathlib.Omega.{arith}
use lib.Dec.{eqb}
use lib.ListN.{length, take, drop, length-drop}
use lib.Seq.{drop-drop, length-take-le}
use Rattle.text.specs.Fields.{onto}
use Rattle.text.specs.Lines.{lines_of, first_length, Ends}

-- f starts with a line of k bytes
abbrev Starts : List ℕ → ℕ → Type 0
Starts f k = (0 < k) × (k ≤ length f) × (lines_of f ≡ take k f ∷ lines_of (drop k f))

longer : (b : ℕ) (f : List ℕ) → lines_of (b ∷ f) ≡ onto b (lines_of f) → Starts f (first_length (lines_of f)) → Starts (b ∷ f) (first_length (lines_of (b ∷ f)))
longer b f h s =
    let k = first_length (lines_of f) in
    let u : lines_of (b ∷ f) ≡ take (suc k) (b ∷ f) ∷ lines_of (drop (suc k) (b ∷ f)) = h ∙ ap (onto b) s.2 in
    let w : first_length (lines_of (b ∷ f)) ≡ suc k = ap first_length u ∙ ap suc (length-take-le k f s.1) in
    subst (Starts (b ∷ f)) (sym w) (omega arith, omega (arith, s.1), u)

starts : (f : List ℕ) → 0 < length f → Starts f (first_length (lines_of f))
unfolding lines_of
starts [] h = absurd (omega arith)
starts (b ∷ []) h = by (eqb b 10) refl
  where
    by : (t : Bool) → eqb b 10 ≡ t → Starts (b ∷ []) (first_length (lines_of (b ∷ [])))
    by true e = rw e (omega arith, omega arith, refl)
    by false e = rw e (omega arith, omega arith, refl)
starts (b ∷ c ∷ bs) h = by (eqb b 10) refl (starts (c ∷ bs) (omega arith))
  where
    by : (t : Bool) → eqb b 10 ≡ t → Starts (c ∷ bs) (first_length (lines_of (c ∷ bs))) → Starts (b ∷ c ∷ bs) (first_length (lines_of (b ∷ c ∷ bs)))
    by true e s = rw e (omega arith, omega arith, refl)
    by false e s = longer b (c ∷ bs) (rw e) s

pub first_line : (f : List ℕ) (a r : ℕ) → r ≡ a + first_length (lines_of (drop a f)) → a < length f → (a < r) × (r ≤ length f) × (lines_of (drop a f) ≡ take (r - a) (drop a f) ∷ lines_of (drop r f))
first_line f a r e h =
    let k = first_length (lines_of (drop a f)) in
    let d = length-drop a f in
    let s = starts (drop a f) (omega (arith, d)) in
    let g : r - a ≡ k = omega (arith, e) in
    (omega (arith, e, s.0), omega (arith, e, s.1, d), rw g (s.2 ∙ ap (λ (l : List ℕ). take k (drop a f) ∷ lines_of l) (drop-drop k a f ∙ ap (λ (n : ℕ). drop n f) (sym e))))

-- so a place that is as far on as that line is long is the line's end
pub ends_there : (f : List ℕ) (a r : ℕ) → r ≡ a + first_length (lines_of (drop a f)) → Ends f a r
ends_there f a r e = (e, first_line f a r e)
