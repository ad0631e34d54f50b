-- What an order's meaning rests on, and what it leaves, for an order of a good program.
use mathlib.Core.Path.{◌≡◌, refl, ap}
use mathlib.Core.Bool.{Bool, true, false, cond}
use mathlib.Core.List.{List, [], ◌∷◌}
use Prim.Native.Nat.{ℕ, ◌%◌, ◌^◌, ◌≤◌, ◌<◌}
use native.Mathlib.Omega.{arith}
use lib.Dec.{T, leb, leb→le, ltb→lt}
use lib.ListN.{length}
use Rattle.ast.specs.Count.{cell_count}
use Rattle.ast.specs.Uses.{uses, index_holds, registers_fit}
use Rattle.machine.specs.Floats.{Floats}
use Rattle.machine.specs.State.{State}
use Rattle.ast.specs.declared.Place.{Place}
use Rattle.ast.specs.declared.Place.TheVariants.{Stack}
use Rattle.ast.specs.declared.Head.{Head}
use Rattle.ast.specs.declared.Order.{Order}
use Rattle.ast.specs.declared.Order.TheVariants.{Unary, Scratched, Binary, Fused, Ifelse, LoadConst, Load, Save, BranchIf, SetLabel}
use Rattle.base.proofs.Bools.{passed}
use Rattle.reading.specs.Meaning.{on, to, jumps, meaning}
use Rattle.reading.specs.Line.{Line}
use Rattle.accesses.specs.Stands.{Accessible}
use Rattle.orders.specs.Fault.{fault}
use Rattle.orders.specs.Does.{cell, const_cell, accessed}
use Rattle.reading.specs.Program.{constants}
use Rattle.call.proofs.Good.{Named}
use Rattle.call.proofs.Cells.{Fine}

-- labels and constants that the orders take
branch_label : (c l : ℕ) (e : Bool) → fault (BranchIf c l e) ≡ 0 → l ≤ 1023
unfolding fault
branch_label c l e h = leb→le l 1023 (passed (leb l 1023) 0 2 (passed (registers_fit (c ∷ [])) (cond (leb l 1023) 0 3) 0 h).1).0

pub const_number : (d k : ℕ) → fault (LoadConst d k) ≡ 0 → k ≤ 1007
unfolding fault
const_number d k h = leb→le k 1007 (passed (leb k 1007) 0 8 (passed (registers_fit (d ∷ [])) (cond (leb k 1007) 0 9) 0 h).1).0

-- What an order accesses is accessible, where cells and constants are at multiples of 8.
pub accessible : (places : ℕ → ℕ) (start : ℕ) (s : State) (H : Head) (ls : List Line) (o : Order) → T (index_holds H o) → Named ls o → fault o ≡ 0 → ((p : Place) (i : ℕ) → i < cell_count H p → cell s p i % 8 ≡ 0) → ((i : ℕ) → i ≤ 1007 → i < length (constants ls) → const_cell places start i % 8 ≡ 0) → Accessible (accessed places start s (uses o).operand)
accessible places start s H ls (Unary u a b) h n e p q = record { eights = tt }
accessible places start s H ls (Scratched u a b t) h n e p q = record { eights = tt }
accessible places start s H ls (Binary u a b t) h n e p q = record { eights = tt }
accessible places start s H ls (Fused u a b t v) h n e p q = record { eights = tt }
accessible places start s H ls (Ifelse a b t i) h n e p q = record { eights = (p Stack i (ltb→lt i H.cap h), tt) }
accessible places start s H ls (LoadConst a i) h n e p q = record { eights = (q i (const_number a i e) n, tt) }
accessible places start s H ls (Load a r i) h n e p q = record { eights = (p r i (ltb→lt i (cell_count H r) h), tt) }
accessible places start s H ls (Save a r i) h n e p q = record { eights = (p r i (ltb→lt i (cell_count H r) h), tt) }
accessible places start s H ls (BranchIf a l t) h n e p q = record { eights = tt }
accessible places start s H ls (SetLabel l) h n e p q = record { eights = tt }

module _ (Q : Floats) (f : ℕ → ℕ) (rm : ℕ) where
  -- Two readers of cells and of constants give one meaning, where they agree on what the order reads.
  pub same_meaning : (H : Head) (ls : List Line) (o : Order) → T (index_holds H o) → Named ls o → fault o ≡ 0 → (c d : Place → ℕ → ℕ) (k j : ℕ → ℕ) → ((p : Place) (i : ℕ) → i < cell_count H p → c p i ≡ d p i) → ((i : ℕ) → i ≤ 1007 → i < length (constants ls) → k i ≡ j i) → meaning Q f rm c k o ≡ meaning Q f rm d j o
  unfolding meaning
  same_meaning H ls (Unary u a b) h n e c d k j p q = refl
  same_meaning H ls (Scratched u a b s) h n e c d k j p q = refl
  same_meaning H ls (Binary u a b s) h n e c d k j p q = refl
  same_meaning H ls (Fused u a b s t) h n e c d k j p q = refl
  same_meaning H ls (Ifelse a b s i) h n e c d k j p q = rw (p Stack i (ltb→lt i H.cap h))
  same_meaning H ls (LoadConst a i) h n e c d k j p q = rw (q i (const_number a i e) n)
  same_meaning H ls (Load a r i) h n e c d k j p q = rw (p r i (ltb→lt i (cell_count H r) h))
  same_meaning H ls (Save s r i) h n e c d k j p q = refl
  same_meaning H ls (BranchIf s l t) h n e c d k j p q = refl
  same_meaning H ls (SetLabel l) h n e c d k j p q = refl

  module _ (c : Place → ℕ → ℕ) (k : ℕ → ℕ) where
    -- the cells it writes are cells
    pub fine_cells : (H : Head) (o : Order) → T (index_holds H o) → ((r : ℕ) → f r < 2 ^ 64) → Fine (cell_count H) (meaning Q f rm c k o).cells
    unfolding meaning
    fine_cells H (Unary u a b) h s = tt
    fine_cells H (Scratched u a b t) h s = tt
    fine_cells H (Binary u a b t) h s = tt
    fine_cells H (Fused u a b t v) h s = tt
    fine_cells H (Ifelse a b t i) h s = tt
    fine_cells H (LoadConst a i) h s = tt
    fine_cells H (Load a r i) h s = tt
    fine_cells H (Save a r i) h s = (ltb→lt i (cell_count H r) h, s a, tt)
    fine_cells H (BranchIf a l t) h s = tt
    fine_cells H (SetLabel l) h s = tt

    -- only a branch goes to a label
    pub exit_branch : (o : Order) (l : ℕ) → (meaning Q f rm c k o).exit ≡ to l → (a : ℕ) × (t : Bool) × (o ≡ BranchIf a l t)
    unfolding meaning
    exit_branch (Unary u a b) l e = let z : ◌≡◌ {A = ℕ} 0 1 = cc in absurd (omega arith)
    exit_branch (Scratched u a b t) l e = let z : ◌≡◌ {A = ℕ} 0 1 = cc in absurd (omega arith)
    exit_branch (Binary u a b t) l e = let z : ◌≡◌ {A = ℕ} 0 1 = cc in absurd (omega arith)
    exit_branch (Fused u a b t v) l e = let z : ◌≡◌ {A = ℕ} 0 1 = cc in absurd (omega arith)
    exit_branch (Ifelse a b t i) l e = let z : ◌≡◌ {A = ℕ} 0 1 = cc in absurd (omega arith)
    exit_branch (LoadConst a i) l e = let z : ◌≡◌ {A = ℕ} 0 1 = cc in absurd (omega arith)
    exit_branch (Load a r i) l e = let z : ◌≡◌ {A = ℕ} 0 1 = cc in absurd (omega arith)
    exit_branch (Save a r i) l e = let z : ◌≡◌ {A = ℕ} 0 1 = cc in absurd (omega arith)
    exit_branch (BranchIf a m t) l e = by (jumps t (f a)) e
      where
        by : (b : Bool) → cond b (to m) on ≡ to l → (a' : ℕ) × (t' : Bool) × (BranchIf a m t ≡ BranchIf a' l t')
        by true e = let z : m ≡ l = cc in (a, t, ap (λ (j : ℕ). BranchIf a j t) z)
        by false e = let z : ◌≡◌ {A = ℕ} 0 1 = cc in absurd (omega arith)
    exit_branch (SetLabel m) l e = let z : ◌≡◌ {A = ℕ} 0 1 = cc in absurd (omega arith)

    -- a user's
    pub exit_label : (o : Order) (l : ℕ) → fault o ≡ 0 → (meaning Q f rm c k o).exit ≡ to l → l ≤ 1023
    exit_label o l h e =
        let b = exit_branch o l e in
        branch_label b.0 l b.1 (rw b.2 at h)
