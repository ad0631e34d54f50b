-- The plain reading is one.
use mathlib.Core.Path.{◌≡◌, refl, ap, sym, subst, ◌∙◌}
use mathlib.Core.List.{List, [], ◌∷◌}
use mathlib.Core.Option.{Option, some}
use Prim.Native.Nat.{ℕ, zero, suc, ◌+◌, ◌≤◌}
use native.Mathlib.Omega.{arith}
use lib.ListN.{length, get_elem?}
use Rattle.machine.specs.Floats.{Floats}
use Rattle.reading.specs.Line.{Line, weight}
use Rattle.reading.specs.Program.{Program}
use Rattle.reading.specs.Plain.{Reading, means, with_meaning, Step, does, passes, Reads, none_read, line_read, Ended, OneReading}

beyond : (ls : List Line) (i : ℕ) (l : Line) → length ls ≤ i → get_elem? ls i ≡ some l → ⊥
beyond [] i l h e = let z : ◌≡◌ {A = ℕ} 0 1 = cc in omega arith
beyond (k ∷ ls) zero l h e = omega arith
beyond (k ∷ ls) (suc i) l h e = beyond ls i l (omega arith) e

same_line : (l k : Line) (o : Option Line) → o ≡ some l → o ≡ some k → l ≡ k
same_line l k o e f = cc

same_number : (n m : ℕ) (o : Option ℕ) → o ≡ some n → o ≡ some m → n ≡ m
same_number n m o e f = cc

module _ (Q : Floats) (p : Program) where
  step_one : {r s t : Reading} {l : Line} → Step Q p r l s → Step Q p r l t → s ≡ t
  step_one (does {r = r} {o = o} {n = n} e) (does {n = m} f) = ap (λ (k : ℕ). with_meaning Q p k (means Q p o r) r) (same_number n m _ e f)
  step_one passes passes = refl

  reads_one : {a r q : Reading} {n m : ℕ} → Reads Q p a n r → Ended p r → Reads Q p a m q → Ended p q → (n ≡ m) × (r ≡ q)
  reads_one none_read h none_read k = (refl, refl)
  reads_one {a = a} none_read h (line_read {l = l} e w z) k = absurd (beyond p.lines a.line l h e)
  reads_one {a = a} (line_read {l = l} e w z) h none_read k = absurd (beyond p.lines a.line l k e)
  reads_one {a = a} {r = r} {q = q} (line_read {s = s} {l = l} {n = n} e w z) h (line_read {s = s'} {l = l'} {n = m} e' w' z') k =
      let c : l' ≡ l = same_line l' l _ e' e in
      let d : s ≡ s' = step_one w (subst (λ (x : Line). Step Q p a x s') c w') in
      let y = reads_one (subst (λ (x : Reading). Reads Q p x n r) d z) h z' k in
      (ap (λ (x : Line). weight x + n) (sym c) ∙ ap (λ (x : ℕ). weight l' + x) y.0, y.1)

-- Two readings that end are one.
pub one_reading : OneReading
one_reading Q p a n r w h m q z k = reads_one Q p w h z k
