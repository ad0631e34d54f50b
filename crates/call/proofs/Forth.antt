-- A reading whose branches go forward ends.
use mathlib.Core.Path.{◌≡◌, refl, ap, ◌∙◌}
use mathlib.Core.List.{List, [], ◌∷◌}
use mathlib.Core.Option.{Option, some, none, IsSome}
use Prim.Native.Nat.{ℕ, zero, suc, ◌+◌, ◌≤◌, ◌<◌}
use native.Mathlib.Decide.{dec_lt}
use native.Mathlib.Omega.{arith}
use lib.ListN.{length, get_elem?}
use Rattle.machine.specs.Floats.{Floats}
use Rattle.ast.specs.declared.Order.{Order}
use Rattle.ast.specs.declared.Order.TheVariants.{BranchIf}
use Rattle.reading.specs.Meaning.{Exit, on, to}
use Rattle.reading.specs.Line.{Line, order, constant, weight}
use Rattle.reading.specs.Program.{Program, label_line}
use Rattle.reading.specs.Plain.{Reading, goes, const, means, with_meaning, passed, Step, does, passes, Reads, none_read, line_read, Ended, Forward}
use Rattle.call.proofs.Good.{Good}
use Rattle.call.proofs.Means.{exit_branch}
use Rattle.call.proofs.Placing.{labelled}

found_line : (ls : List Line) (i : ℕ) → i < length ls → (l : Line) × (get_elem? ls i ≡ some l)
found_line [] i h = absurd (omega arith)
found_line (l ∷ ls) zero h = (l, refl)
found_line (l ∷ ls) (suc i) h = found_line ls i (omega arith)

set_somewhere : (o : Option ℕ) → IsSome o → (j : ℕ) × (o ≡ some j)
set_somewhere (some j) h = (j, refl)
set_somewhere none h = absurd h

module _ (Q : Floats) (p : Program) (g : Good p) where
  -- a step, no further than behind the last line; ahead, where branches go forward
  pub record Onward (r : Reading) (l : Line) : Type 0 where
    pub next : Reading
    pub step : Step Q p r l next
    pub ahead : Forward p → r.line < next.line
    pub most : next.line ≤ length p.lines

  module _ (r : Reading) (h : r.line < length p.lines) where
    target : (o : Order) → get_elem? p.lines r.line ≡ some (order o) → (x : Exit) → (means Q p o r).exit ≡ x → (n : ℕ) × (goes p.lines r.line x ≡ some n) × (Forward p → r.line < n) × (n ≤ length p.lines)
    target o e on q = (suc r.line, refl, λ f. omega arith, omega arith)
    target o e (to l) q =
        let b = exit_branch Q r.f r.rm r.cells (const Q p) o l q in
        let k : get_elem? p.lines r.line ≡ some (order (BranchIf b.0 l b.1)) = e ∙ ap (λ (x : Order). some (order x)) b.2 in
        let t = set_somewhere (label_line l 0 p.lines) (g.orders r.line (BranchIf b.0 l b.1) k).named in
        let v = labelled l 0 0 p.lines t.0 t.1 in
        (t.0, t.1, λ f. f r.line b.0 l b.1 k t.0 t.1, omega (arith, v.line, v.there))

    -- every line of a good program is read
    pub onward : (l : Line) → get_elem? p.lines r.line ≡ some l → Onward r l
    onward (order o) e =
        let t = target o e (means Q p o r).exit refl in
        record { next = with_meaning Q p t.0 (means Q p o r) r; step = does t.1; ahead = t.2; most = t.3 }
    onward (constant c) e = record { next = passed Q p r; step = passes; ahead = λ f. omega arith; most = omega arith }

  reads_on : Forward p → (fuel : ℕ) (r : Reading) → length p.lines ≤ r.line + fuel → (k : ℕ) × (t : Reading) × Reads Q p r k t × Ended p t
  reads_on f zero r h = (0, r, none_read, omega arith)
  reads_on forward (suc fuel) r h =
      by (dec_lt r.line (length p.lines))
      (λ m.
      let f = found_line p.lines r.line m in
      let v = onward r m f.0 f.1 in
      let q = reads_on forward fuel v.next (omega (arith, v.ahead forward)) in
      (weight f.0 + q.0, q.1, line_read f.1 v.step q.2, q.3))
    where
      by : Dec (r.line < length p.lines) → (r.line < length p.lines → (k : ℕ) × (t : Reading) × Reads Q p r k t × Ended p t) → (k : ℕ) × (t : Reading) × Reads Q p r k t × Ended p t
      by (yes m) f = f m
      by (no m) f = (0, r, none_read, omega arith)

  pub ends : Forward p → (r : Reading) → (k : ℕ) × (t : Reading) × Reads Q p r k t × Ended p t
  ends f r = reads_on f (length p.lines) r (omega arith)
