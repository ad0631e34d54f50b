-- The cells of the three places in memory: one is set, the others and all outside stay.
use mathlib.Core.Path.{◌≡◌, refl, ap, ap₂, ◌∙◌}
use mathlib.Core.Bool.{Bool, true, false, ◌&&◌, cond}
use mathlib.Core.List.{List, [], ◌∷◌}
use Prim.Native.Nat.{ℕ, ◌+◌, ◌*◌, ◌^◌, ◌≤◌, ◌<◌}
use native.Mathlib.Omega.{arith}
use borrow.Author.Tests.{ltb-true, ltb-false, eqb-true, eq-eqb}
use lib.Dec.{eqb, ltb}
use Rattle.base.proofs.Bools.{both}
use Rattle.machine.specs.Word.{w64, dist, load8, store8}
use Rattle.machine.proofs.Memory.{inside, store_miss, load_store, load8_store, Apart}
use Rattle.ast.specs.declared.Place.{Place}
use Rattle.ast.specs.declared.Place.TheVariants.{Mem, Stack, Param}
use Rattle.reading.specs.Meaning.{Written}
use Rattle.reading.specs.Plain.{same_place, with_cell, with_cells}

-- x lies in one of the n cells at a
abbrev pub Inside : (a n x : ℕ) → Type 0
Inside a n x = (a ≤ x) × (x < a + 8 * n)

pub same_eq : (p q : Place) → same_place p q ≡ true → p ≡ q
same_eq Mem Mem e = refl
same_eq Mem Stack e = let z : ◌≡◌ {A = ℕ} 0 1 = cc in absurd (omega arith)
same_eq Mem Param e = let z : ◌≡◌ {A = ℕ} 0 1 = cc in absurd (omega arith)
same_eq Stack Mem e = let z : ◌≡◌ {A = ℕ} 0 1 = cc in absurd (omega arith)
same_eq Stack Stack e = refl
same_eq Stack Param e = let z : ◌≡◌ {A = ℕ} 0 1 = cc in absurd (omega arith)
same_eq Param Mem e = let z : ◌≡◌ {A = ℕ} 0 1 = cc in absurd (omega arith)
same_eq Param Stack e = let z : ◌≡◌ {A = ℕ} 0 1 = cc in absurd (omega arith)
same_eq Param Param e = refl

no_both : (a b : Bool) → (a && b) ≡ false → a ≡ true → b ≡ true → ⊥
no_both a b e f g = let z : ◌≡◌ {A = ℕ} 0 1 = cc in omega arith

-- Place p has n p cells from A p on: they don't go round, and those of two places have no byte in common.
pub record Rooms (A n : Place → ℕ) : Type 0 where
  pub fits : (p : Place) → 0 < n p → A p + 8 * n p ≤ 2 ^ 64
  pub apart : (p q : Place) (x : ℕ) → Inside (A p) (n p) x → Inside (A q) (n q) x → same_place p q ≡ true

module _ {A n : Place → ℕ} (t : Rooms A n) where
  -- no address of a cell goes round
  pub at_cell : (p : Place) (i : ℕ) → i < n p → w64 (A p + 8 * i) ≡ A p + 8 * i
  at_cell p i h = omega (arith, t.fits p (omega arith))

  cell_inside : (p : Place) (i x : ℕ) → i < n p → x < 2 ^ 64 → dist (A p + 8 * i) x < 8 → (A p + 8 * i ≤ x) × (x < A p + 8 * i + 8)
  cell_inside p i x h l d = inside (A p + 8 * i) 8 x (omega (arith, t.fits p (omega arith))) l d

  -- a store to a cell leaves every byte outside the place's cells
  pub set_rest : (m : ℕ → ℕ) (p : Place) (i v x : ℕ) → i < n p → x < 2 ^ 64 → (Inside (A p) (n p) x → ⊥) → store8 m (w64 (A p + 8 * i)) v x ≡ m x
  set_rest m p i v x h l k = rw (at_cell p i h) (by (ltb (dist (A p + 8 * i) x) 8) refl)
    where
      by : (b : Bool) → ltb (dist (A p + 8 * i) x) 8 ≡ b → store8 m (A p + 8 * i) v x ≡ m x
      by true e = let q = cell_inside p i x h l (ltb-true _ _ e) in absurd (k (omega arith, omega arith))
      by false e = store_miss m (A p + 8 * i) v x (ltb-false _ _ e)

  -- and every other cell
  pub set_cell : (m : ℕ → ℕ) (c : Place → ℕ → ℕ) (w : Written) → w.index < n w.place → w.bits < 2 ^ 64 → ((q : Place) (j : ℕ) → j < n q → load8 m (w64 (A q + 8 * j)) ≡ c q j) → (q : Place) (j : ℕ) → j < n q → load8 (store8 m (w64 (A w.place + 8 * w.index)) w.bits) (w64 (A q + 8 * j)) ≡ with_cell w c q j
  unfolding with_cell
  set_cell m c w hi hv e q j hj = by (same_place q w.place && eqb j w.index) refl
    where
      by : (b : Bool) → (same_place q w.place && eqb j w.index) ≡ b → load8 (store8 m (w64 (A w.place + 8 * w.index)) w.bits) (w64 (A q + 8 * j)) ≡ cond b w.bits (c q j)
      by true z =
          let s = both (same_place q w.place) (eqb j w.index) z in
          let y : w64 (A q + 8 * j) ≡ w64 (A w.place + 8 * w.index) = ap₂ (λ r k. w64 (A r + 8 * k)) (same_eq q w.place s.0) (eqb-true j w.index s.1) in
          rw y (load_store m (w64 (A w.place + 8 * w.index)) w.bits hv)
      by false z =
          load8_store m (w64 (A w.place + 8 * w.index)) w.bits (w64 (A q + 8 * j)) (rw (at_cell w.place w.index hi, at_cell q j hj) apart) ∙ e q j hj
        where
          apart : Apart (A w.place + 8 * w.index) 8 (A q + 8 * j) 8
          apart x l d f =
              let g = cell_inside w.place w.index x hi l d in
              let h = cell_inside q j x hj l f in
              let u : same_place q w.place ≡ true = t.apart q w.place x (omega arith, omega arith) (omega arith, omega arith) in
              let y : A q ≡ A w.place = ap A (same_eq q w.place u) in
              let k : j ≡ w.index = omega arith in
              no_both (same_place q w.place) (eqb j w.index) z u (eq-eqb j w.index k)

-- ---- several cells in turn

-- each is one of the cells, and its bits are 64
abbrev pub Fine : (Place → ℕ) → List Written → Type 0
Fine n [] = Unit {0}
Fine n (w ∷ ws) = (w.index < n w.place) × (w.bits < 2 ^ 64) × Fine n ws

-- memory with the cells written in turn
abbrev pub stored : (Place → ℕ) → List Written → (ℕ → ℕ) → ℕ → ℕ
stored A [] m = m
stored A (w ∷ ws) m = stored A ws (store8 m (w64 (A w.place + 8 * w.index)) w.bits)

module _ {A n : Place → ℕ} (t : Rooms A n) where
  pub stored_cells : (ws : List Written) (m : ℕ → ℕ) (c : Place → ℕ → ℕ) → Fine n ws → ((q : Place) (j : ℕ) → j < n q → load8 m (w64 (A q + 8 * j)) ≡ c q j) → (q : Place) (j : ℕ) → j < n q → load8 (stored A ws m) (w64 (A q + 8 * j)) ≡ with_cells ws c q j
  stored_cells [] m c h e = e
  stored_cells (w ∷ ws) m c h e = stored_cells ws (store8 m (w64 (A w.place + 8 * w.index)) w.bits) (with_cell w c) h.2 (set_cell t m c w h.0 h.1 e)

  pub stored_rest : (ws : List Written) (m : ℕ → ℕ) → Fine n ws → (x : ℕ) → x < 2 ^ 64 → ((q : Place) → Inside (A q) (n q) x → ⊥) → stored A ws m x ≡ m x
  stored_rest [] m h x l o = refl
  stored_rest (w ∷ ws) m h x l o =
      stored_rest ws (store8 m (w64 (A w.place + 8 * w.index)) w.bits) h.2 x l o ∙ set_rest t m w.place w.index w.bits x h.0 l (o w.place)
